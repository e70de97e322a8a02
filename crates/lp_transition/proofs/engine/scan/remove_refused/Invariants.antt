use Rattle.std.proofs.Common.{◌≡◌, ℕ, ◌&&◌, not, true, take}
use Rattle.std.specs.List.{list_any}
use Rattle.lp_numbers.specs.Numbers.{has}
use Rattle.lp_transition.specs.inside.ScanSteps.{is_found}
use Rattle.lp_transition.proofs.engine.scan.remove_refused.Given as goal

-- the groups that were there, without those that the verdicts so far refuse
abbrev pub invariant-loop-verdict : goal.invariant-loop-verdict
invariant-loop-verdict l = (group : ℕ) → has l.groups group ≡ (has l.fn.groups group && not (list_any (is_found l.tasks true group) (take l.verdict-index l.verdicts)))
