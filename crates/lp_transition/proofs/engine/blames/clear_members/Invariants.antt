use Rattle.std.proofs.Common.{◌≡◌, ◌≤◌, ℕ, None, false, length, nat_eq}
use Rattle.std.specs.List.{list_any}
use Rattle.lp_transition.specs.inside.Blames.{blame_at}
use Rattle.lp_transition.proofs.engine.blames.clear_members.Given as goal

-- the groups that aren't still to come have no blame
abbrev pub invariant-loop-number : goal.invariant-loop-number
invariant-loop-number l = record {
  count : length l.of_group ≤ 65536;
  none : (group : ℕ) → list_any (nat_eq group) l.number-iterator ≡ false → blame_at l.of_group group ≡ None;
}
