use Rattle.std.proofs.Common.{◌≡◌, ℕ, ◌<◌, length, get_or}
use Rattle.lp_patch.specs.Patches.{version}
use Rattle.lp_patch.proofs.stack.versions_of.Given as goal

-- the versions at the levels so far
abbrev pub invariant-loop-level : goal.invariant-loop-level
invariant-loop-level l = record {
  wide : length l.row ≡ 17;
  right : (k : ℕ) → k < l.level → get_or l.row k 0 ≡ version l.sets l.func k;
}
