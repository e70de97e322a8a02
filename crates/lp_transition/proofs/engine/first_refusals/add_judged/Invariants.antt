use Rattle.std.proofs.Common.{◌≡◌, ℕ, ◌||◌, take}
use Rattle.lp_numbers.specs.Numbers.{has}
use Rattle.lp_transition.specs.inside.ScanSteps.{is_judged}
use Rattle.lp_transition.proofs.engine.first_refusals.add_judged.Given as goal

-- the tasks of the verdicts so far are in
abbrev pub invariant-loop-verdict : goal.invariant-loop-verdict
invariant-loop-verdict l = (t : ℕ) → has l.tasks t ≡ (has l.initial.tasks t || is_judged (take l.verdict-index l.verdicts) t)
