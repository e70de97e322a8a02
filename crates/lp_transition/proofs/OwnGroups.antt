-- Groups whose only member is the task of their number.
use Rattle.std.proofs.Common.{◌≡◌, ℕ, ◌<◌, true, false, Some, None, nat_eq, refl, sym, ap, ◌∙◌}
use Rattle.std.proofs.lemmas.Bool.{eqb-true, eq-eqb}
use Rattle.std.specs.List.{list_any}
use Rattle.lp_numbers.specs.Numbers.{Numbers, has}
use Rattle.lp_definitions.specs.Tasks.{Live, on_live}
use Rattle.lp_definitions.specs.Leg.{LegTask}
use Rattle.lp_machine.specs.Table.{Table, Engine, slot, leg_tasks, state_in}
use Rattle.lp_tasks.specs.inside.Table.{is_in}
use Rattle.lp_transition.specs.inside.Invariant.{IsEngine}
use Rattle.lp_transition.specs.Scan.{is_asked}
use Rattle.lp_tasks.specs.Passing.{passing}
use Rattle.lp_transition.specs.inside.ScanSteps.{IsOwnGroup}
use Rattle.lp_tasks.proofs.MemberLemmas.{IsLone, slot-below}
use Rattle.lp_tasks.proofs.Passing.{passing-both_is, passing-both_from}
use Rattle.lp_definitions.proofs.Quantifiers.{same_bool}
use Rattle.lp_transition.proofs.ScanTakes.{group_fits}
use Rattle.lp_tasks.proofs.TableLemmas.{slot_from_live}

-- the only member of a group has its number
pub own-lone : (table : Table) (number : ℕ) → IsLone table number number → IsOwnGroup table number
own-lone table number lone t x there =
    let same : nat_eq x.group number ≡ nat_eq t number = sym (ap (is_in number) there) ∙ lone t in
    (λ (e : x.group ≡ number). eqb-true t number (sym same ∙ eq-eqb x.group number e), λ (e : t ≡ number). eqb-true x.group number (same ∙ eq-eqb t number e))

-- a group without any member, of which no live task has the number
pub own-none : (table : Table) (number : ℕ) → slot table number ≡ None → ((t : ℕ) → is_in number (slot table t) ≡ false) → IsOwnGroup table number
own-none table number empty nobody t x there = (
  λ (e : x.group ≡ number). let yes : is_in number (slot table t) ≡ true = ap (is_in number) there ∙ eq-eqb x.group number e in let no = nobody t in absurd (cc),
  λ (e : t ≡ number). let told : Some x ≡ None = sym there ∙ ap (slot table) e ∙ empty in absurd (cc),
)

module _ (e : Engine) (waiting : Numbers) (kept : IsEngine e waiting) where
  -- ---- Whom a scan looks at

  -- where the groups are of their own numbers, the tasks of these numbers
  pub own-agrees : (groups : Numbers) → ((group : ℕ) → group < 65536 → has groups group ≡ true → IsOwnGroup e.table group) → (t : ℕ) (x : LegTask) → leg_tasks e.table t ≡ Live x → has groups t ≡ is_asked (state_in e) (has groups) t
  own-agrees groups own t x live =
      let at = slot_from_live e.table t x live in
      same_bool (has groups t) (has groups x.group)
      (λ h. ap (has groups) ((own t (slot-below e.table t x kept.wide at) h t x at).1 refl) ∙ h)
      (λ h. ap (has groups) ((own x.group (group_fits e t x kept.sound kept.wide at) h t x at).0 refl) ∙ h)
      ∙ sym (ap (on_live false (λ (y : LegTask). has groups y.group)) live)

  -- else the live tasks of these groups
  pub member-agrees : (groups set : Numbers) → ((task : ℕ) → has set task ≡ list_any (λ group. is_in group (slot e.table task)) (passing 0 65536 (has groups))) → (t : ℕ) (x : LegTask) → leg_tasks e.table t ≡ Live x → has set t ≡ is_asked (state_in e) (has groups) t
  member-agrees groups set told t x live =
      let at = slot_from_live e.table t x live in
      let p = λ (group : ℕ). is_in group (slot e.table t) in
      same_bool (has set t) (has groups x.group)
      (λ h.
      let b = passing-both_is 65536 (has groups) p (sym (told t) ∙ h) in
      let own : nat_eq x.group b.number ≡ true = ap (is_in b.number) (sym at) ∙ b.passed in
      ap (has groups) (eqb-true x.group b.number own) ∙ b.member)
      (λ h.
      told t
      ∙ passing-both_from 65536 (has groups) p (record {
        number = x.group;
        below = group_fits e t x kept.sound kept.wide at;
        member = h;
        passed = ap (is_in x.group) at ∙ eq-eqb x.group x.group refl;
      }))
      ∙ sym (ap (on_live false (λ (y : LegTask). has groups y.group)) live)
