use Rattle.std.proofs.Common.{◌≡◌, length}
use Rattle.lp_stays.specs.inside.Holders.{AreHolders}
use Rattle.lp_stays.proofs.holders.all_holders.Given as goal

-- the functions of lower numbers are done
abbrev pub invariant-loop-func : goal.invariant-loop-func
invariant-loop-func l = record {
  count : length l.masks.items ≡ l.func;
  done : AreHolders l.patches l.masks.items;
}
