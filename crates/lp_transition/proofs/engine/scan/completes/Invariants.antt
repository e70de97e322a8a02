use Rattle.std.proofs.Common.{◌≡◌, false, is_some, take, ◌++◌}
use Rattle.std.specs.List.{list_any}
use Rattle.lp_numbers.specs.Numbers.{has}
use Rattle.lp_tasks.specs.Passing.{passing}
use Rattle.lp_transition.specs.inside.ScanSteps.{tasks_of}
use Rattle.lp_transition.proofs.engine.scan.completes.Given as goal

-- the verdicts so far admit their tasks, which are those of the set but for those still to come
abbrev pub invariant-loop-verdict : goal.invariant-loop-verdict
invariant-loop-verdict l = record {
  admitted : list_any (λ v. is_some v.blame) (take l.verdict-index l.verdicts) ≡ false;
  tasks : tasks_of (take l.verdict-index l.verdicts) ++ l.tasks ≡ passing 0 65536 (has l.fn.waiting);
}
