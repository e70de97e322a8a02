use Rattle.std.proofs.Common.{◌≡◌, map, take}
use Rattle.lp_c.specs.Codes.{boot_of}
use Rattle.lp_c.proofs.patches.boots_of.Given as goal

-- the tasks so far
abbrev pub invariant-loop-task : goal.invariant-loop-task
invariant-loop-task l = l.boots.items ≡ map boot_of (take l.task-index l.tasks)
