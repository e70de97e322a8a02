use Rattle.std.proofs.Common.{◌≡◌, take}
use Rattle.lp_patch.proofs.stack.copied_sets.Given as goal

-- the copies so far
abbrev pub invariant-loop-set : goal.invariant-loop-set
invariant-loop-set l = l.copied.items ≡ take l.set-index l.sets
