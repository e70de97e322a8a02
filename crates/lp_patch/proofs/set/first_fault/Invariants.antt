use Rattle.std.proofs.Common.{◌≡◌, [], take, drop}
use Rattle.lp_patch.specs.Patches.{first_fault}
use Rattle.lp_patch.proofs.set.first_fault.Given as goal

-- the symbols so far are at no fault
abbrev pub invariant-loop-i : goal.invariant-loop-i
invariant-loop-i l = first_fault l.symbols (take l.i l.ids) (drop l.i l.ids) ≡ first_fault l.symbols [] l.ids
