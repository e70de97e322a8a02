use Rattle.lp_c.proofs.Flat.{Continues}
use Rattle.lp_c.proofs.patches.patch_sets.Given as goal

-- whatever patches of the rest follow make those of all
abbrev pub invariant-loop-length : goal.invariant-loop-length
invariant-loop-length l = Continues l.symbols.count l.functions l.lengths l.length-index l.rest l.sets.items
