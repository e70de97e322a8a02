use Rattle.std.proofs.Common.{◌≡◌, ℕ, ◌==◌, length, take}
use Rattle.std.specs.List.{list_any}
use Rattle.lp_patch.specs.Patches.{has}
use Rattle.lp_patch.proofs.set.PatchSet.build.Given as goal

-- the patch has the symbols so far
abbrev pub invariant-loop-id : goal.invariant-loop-id
invariant-loop-id g l = record {
  count : length l.members.items ≡ g.S.Numbering.count l.symbols;
  members : (q : ℕ) → has l.members.items q ≡ list_any (λ s. s.0 == q) (take l.id-index l.ids);
}
