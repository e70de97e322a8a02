use Rattle.std.proofs.Common.{◌∙◌, ap, arith, map, sym, take_all}
use Rattle.std.proofs.lemmas.List.{map_more}
use Rattle.lp_stack.specs.declared.number.TaskId.{TaskId}
use Rattle.lp_stack.specs.declared.view.Class.{Class}
use Rattle.lp_log.specs.Seats.{new_seat}
use Rattle.lp_log.proofs.seat.Seat.all.Goals as goal

pub loop-task-preserved : goal.loop-task-preserved
loop-task-preserved c =
    let boots = c.args.boots.now in
    let i = c.loop-task.task-index in
    let seat_of = λ (boot : TaskId × Class). new_seat boot.0.0 in
    rw (c.in_ok-push.ensures.items, c.loop-task.invariant, c.new.ensures) (sym (map_more seat_of boots i _ c.loop-task-test.true))

pub returns : goal.returns
returns c = c.loop-task.invariant ∙ ap (map (λ (boot : TaskId × Class). new_seat boot.0.0)) (take_all c.loop-task.task-index c.args.boots.now (omega (arith, c.loop-task-test.false)))
