use Rattle.std.proofs.Common.{◌≡◌, ℕ}
use Rattle.lp_numbers.specs.Numbers.{has}
use Rattle.lp_numbers.specs.Ascending.{members_from}
use Rattle.lp_transition.specs.inside.FirstRefusals.{HasAsked}
use Rattle.lp_tasks.specs.Passing.{place_of}
use Rattle.lp_transition.proofs.engine.Core.ask_in_turn.Given as goal

-- the candidates that aren't still to come were asked, where they had to be
abbrev pub invariant-loop-number : goal.invariant-loop-number
invariant-loop-number g l = record {
  asked : HasAsked g.M.Consistency.rules l.kind l.self (has l.candidates) (has l.may_refuse) (has l.initial.unrefused) (place_of l.number-iterator) l.found.items (has l.unrefused);
  from : ℕ;
  rest : l.number-iterator ≡ members_from from l.candidates;
}
