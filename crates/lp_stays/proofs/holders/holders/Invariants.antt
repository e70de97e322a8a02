use Rattle.lp_stays.specs.inside.Holders.{HasFirst}
use Rattle.lp_stays.proofs.holders.holders.Given as goal

-- the lowest patches are done
abbrev pub invariant-loop-below : goal.invariant-loop-below
invariant-loop-below l = HasFirst l.patches l.func.0 l.below l.mask
