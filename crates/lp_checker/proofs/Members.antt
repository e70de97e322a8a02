-- What the counts of members say of checks.
use Rattle.std.proofs.Common.{◌≡◌, ℕ, Bool, true, false, count_by, Some, None, nat_eq, nat_lt, refl, sym, ◌∙◌, arith}
use Rattle.std.proofs.lemmas.Bool.{eqb-true, eq-eqb, ltb-true, lt-ltb}
use Rattle.lp_patch.specs.Patches.{Patches}
use Rattle.lp_definitions.specs.Leg.{LegTask, has_member, is_alone}
use Rattle.lp_machine.specs.Machine.{outlines_of}
use Rattle.lp_machine.specs.Table.{Table, slot, leg_tasks, bounds_of, IsWide}
use Rattle.lp_tasks.specs.inside.Table.{is_in}
use Rattle.lp_tasks.proofs.MemberLemmas.{Member, has_member-is, has_member-from, alone-is, alone-from}

-- two answers that come to the same
pub same_answer : (a b : Bool) → (a ≡ true → b ≡ true) → (b ≡ true → a ≡ true) → a ≡ b
same_answer true b there back = sym (there refl)
same_answer false true there back = back refl
same_answer false false there back = refl

module _ (table : Table) (patches : Patches) (wide : IsWide table) (nobody : slot table 0 ≡ None) where
  -- a group has a live member where its count isn't 0
  pub member-counts : (group n : ℕ) → n ≡ count_by (is_in group) table.slots → nat_lt 0 n ≡ has_member (bounds_of patches) (outlines_of (leg_tasks table)) group
  member-counts group n is =
      same_answer _ _
      (λ some. has_member-from table patches wide nobody group (let lt = ltb-true 0 n some in omega (arith, lt, is)))
      (λ some. lt-ltb 0 n (let lt = has_member-is table patches wide nobody group some in omega (arith, lt, is)))

  -- a member is alone where its group counts one
  pub alone-counts : (group t n : ℕ) (x : LegTask) → slot table t ≡ Some x → x.group ≡ group → n ≡ count_by (is_in group) table.slots → nat_eq n 1 ≡ is_alone (bounds_of patches) (outlines_of (leg_tasks table)) group t
  alone-counts group t n x there same is =
      let member : Member table group t = record { task = x; there = there; grouped = same } in
      same_answer _ _
      (λ one. alone-from table patches wide nobody group t member (sym is ∙ eqb-true n 1 one))
      (λ alone. eq-eqb n 1 (is ∙ alone-is table patches wide nobody group t member alone))
