use Rattle.std.proofs.Common.{◌≡◌, ℕ, ◌&&◌, not, take}
use Rattle.std.specs.List.{list_any}
use Rattle.lp_numbers.specs.Numbers.{has}
use Rattle.lp_transition.specs.inside.ScanSteps.{admits_task}
use Rattle.lp_transition.proofs.engine.unchanged.remove_admitted.Given as goal

-- the tasks that were there, without those that the verdicts so far admit
abbrev pub invariant-loop-verdict : goal.invariant-loop-verdict
invariant-loop-verdict l = (t : ℕ) → has l.tasks t ≡ (has l.fn.tasks t && not (list_any (admits_task t) (take l.verdict-index l.verdicts)))
