use Rattle.std.proofs.Common.{◌≡◌, ◌∙◌, List, ap, map, arith}
use Rattle.std.proofs.lemmas.Grind.{common_steps}
use Rattle.lp_stack.specs.declared.number.TaskId.{TaskId}
use Rattle.lp_stack.specs.declared.view.Class.{Class}
use Rattle.lp_board.specs.Names.{Name}
use Rattle.lp_log.specs.Seats.{new_seat}
use Rattle.lp_desk.proofs.book.Book.open.Goals as goal

pub returns-in-Ok-clause-seats : goal.returns-in-Ok-clause-seats
returns-in-Ok-clause-seats g c =
    c.in-Ok.ensures.seats
    ∙ ap (λ (boots : List (TaskId × Class)). map (λ (boot : TaskId × Class). new_seat boot.0.0) boots) (c.in_ok-parts.ensures.start.1 ∙ ap (λ (name : Name). name.boots) c.requires)

pub returns-in-Ok-clause-started : goal.returns-in-Ok-clause-started
returns-in-Ok-clause-started g c = grind (arith, common_steps)

pub returns-in-Ok-clause-count : goal.returns-in-Ok-clause-count
returns-in-Ok-clause-count g c = grind (arith, common_steps)

pub returns-in-Err-clause-refused : goal.returns-in-Err-clause-refused
returns-in-Err-clause-refused g c = grind (arith, common_steps)
