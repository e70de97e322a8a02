use Rattle.std.proofs.Common.{◌≡◌, take}
use Rattle.lp_patch.proofs.stack.are_same.Given as goal

-- the patches so far are the same
abbrev pub invariant-loop-i : goal.invariant-loop-i
invariant-loop-i l = take l.i l.sets ≡ take l.i l.others
