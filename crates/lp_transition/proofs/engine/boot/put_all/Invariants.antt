use Rattle.std.proofs.Common.{take}
use Rattle.lp_transition.proofs.BootLemmas.{ArePut}
use Rattle.lp_transition.proofs.engine.boot.put_all.Given as goal

-- the tasks so far are live, and counted
abbrev pub invariant-loop-task : goal.invariant-loop-task
invariant-loop-task g l = ArePut g.M.Consistency.rules (take l.task-index l.boots) l.tasks
