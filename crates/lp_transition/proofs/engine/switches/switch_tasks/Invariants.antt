use Rattle.std.proofs.Common.{take}
use Rattle.lp_transition.specs.inside.ScanSteps.{is_judged, is_unrefused, AreSwitched}
use Rattle.lp_transition.proofs.engine.switches.switch_tasks.Given as goal

-- the tasks of the verdicts so far switched
abbrev pub invariant-loop-verdict : goal.invariant-loop-verdict
invariant-loop-verdict l = AreSwitched (is_judged (take l.verdict-index l.verdicts)) (is_unrefused l.refused) l.target.0 l.fn.tasks l.tasks l.fn.waiting l.waiting
