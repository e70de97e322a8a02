-- What the engine keeps beside its tasks answers what is asked of each live task.
use Rattle.std.proofs.Common.{◌≡◌, ◌≢◌, ◌↔◌, ℕ, ◌+◌, ◌<◌, ◌≤◌, Bool, true, false, not, ◌&&◌, ◌||◌, count_by, Option, Some, None, IsTrue, nat_eq, refl, sym, ap, subst, ◌∙◌, ⊎_elim, arith}
use Rattle.std.proofs.lemmas.Bool.{cases_eq, cases_lt, and_parts, and_from, or_cases, or_left, or_right, eqb-true, eq-eqb, ne_eqb, not-true, not-false, not_from_true, not_from_false, cond-true, false_from_ne_true}
use Rattle.std.proofs.lemmas.List.{get_or_past}
use Rattle.lp_numbers.specs.Numbers.{Numbers, has, IsEmpty}
use Rattle.lp_patch.specs.Patches.{Patches}
use Rattle.lp_definitions.specs.Tasks.{on_live, map_live}
use Rattle.lp_definitions.specs.Leg.{LegTask, each_live, some_live, has_member, is_alone}
use Rattle.lp_machine.specs.Machine.{outline_of, outlines_of}
use Rattle.lp_machine.specs.Table.{Table, slot, leg_tasks, bounds_of, IsWide}
use Rattle.lp_tasks.specs.inside.Table.{IsBlank, without_task, is_off, is_in}
use Rattle.lp_definitions.proofs.Quantifiers.{each_live-at, each_live-from, some_live-is, some_live-from, each_live-map, some_live-map}
use Rattle.lp_tasks.proofs.TableLemmas.{slot_from_live, live_from_slot, slot-without_task, slot-without_task_other, IsWide-without_task}
use Rattle.lp_tasks.proofs.CountLemmas.{count-without_task}
use Rattle.lp_tasks.proofs.Positions.{count_zero-at, count_zero-from, count_some-is, count_some-from}

-- ---- Numbers of live tasks

-- a task that stands in a slot has a number from 1
pub slot-positive : (table : Table) (t : ℕ) (x : LegTask) → slot table 0 ≡ None → slot table t ≡ Some x → 0 < t
slot-positive table t x empty some =
    ⊎_elim (λ (e : t ≡ 0). let none : slot table t ≡ None = subst (λ u. slot table u ≡ None) (sym e) empty in absurd (cc)) (λ (ne : t ≡ 0 → ⊥). omega (arith, ne)) (cases_eq t 0)

-- a task that stands in a slot has a number up to 65,535
pub slot-below : (table : Table) (t : ℕ) (x : LegTask) → IsWide table → slot table t ≡ Some x → t < 65536
slot-below table t x wide some =
    ⊎_elim (λ (h : t < 65536). h) (λ (h : 65536 ≤ t). let none : slot table t ≡ None = get_or_past table.slots t None (omega (arith, wide.slots)) in absurd (cc)) (cases_lt t 65536)

-- a member of a group
pub record Member (table : Table) (group t : ℕ) : Type 0 where
  pub task : LegTask
  pub there : slot table t ≡ Some task
  pub grouped : task.group ≡ group

-- a member of a group that waits
pub record Waiter (table : Table) (waiting : Numbers) (group : ℕ) : Type 0 where
  pub number : ℕ
  pub waits : has waiting number ≡ true
  pub member : Member table group number

in_slot : (table : Table) (group t : ℕ) (o : Option LegTask) → slot table t ≡ o → is_in group o ≡ true → Member table group t
in_slot table group t None e h = absurd (cc)
in_slot table group t (Some x) e h = record { task = x; there = e; grouped = eqb-true x.group group h }

-- a slot that counts for a group has a member
pub member-is : (table : Table) (group t : ℕ) → is_in group (slot table t) ≡ true → Member table group t
member-is table group t h = in_slot table group t (slot table t) refl h

-- the slot of a member counts for the group
pub member-from : (table : Table) (group t : ℕ) → Member table group t → is_in group (slot table t) ≡ true
member-from table group t m = ap (is_in group) m.there ∙ eq-eqb m.task.group group m.grouped

-- a task is the only member of a group
abbrev pub IsLone : Table → ℕ → ℕ → Type 0
IsLone table group t = (u : ℕ) → is_in group (slot table u) ≡ nat_eq u t

-- in a blank table no group has a member
pub count-blank : (table : Table) (group : ℕ) → IsBlank table → count_by (is_in group) table.slots ≡ 0
count-blank table group blank = count_zero-from (is_in group) table.slots None (λ t lt. ap (is_in group) (blank.no_task t))

module _ (table : Table) (patches : Patches) (wide : IsWide table) (empty : slot table 0 ≡ None) where
  -- ---- Members of a group

  member_counts : (group t : ℕ) → Member table group t → 0 < count_by (is_in group) table.slots
  member_counts group t m =
      count_some-from (is_in group) table.slots t None (omega (arith, wide.slots, slot-below table t m.task wide m.there)) (member-from table group t m)

  -- a group with a count has a live member
  pub has_member-is : (group : ℕ) → IsTrue (has_member (bounds_of patches) (outlines_of (leg_tasks table)) group) → 0 < count_by (is_in group) table.slots
  has_member-is group h =
      let w = some_live-is (bounds_of patches) (leg_tasks table) (λ t x. nat_eq x.group group) (sym (some_live-map (bounds_of patches) outline_of (leg_tasks table) (λ t x. nat_eq x.group group)) ∙ h) in
      member_counts group w.task (record { task = w.life; there = slot_from_live table w.task w.life w.live; grouped = eqb-true w.life.group group w.passed })

  pub has_member-from : (group : ℕ) → 0 < count_by (is_in group) table.slots → IsTrue (has_member (bounds_of patches) (outlines_of (leg_tasks table)) group)
  has_member-from group h =
      let at = count_some-is (is_in group) table.slots None h in
      let m = member-is table group at.0 at.2 in
      some_live-map (bounds_of patches) outline_of (leg_tasks table) (λ t x. nat_eq x.group group)
      ∙ some_live-from (bounds_of patches) (leg_tasks table) (λ t x. nat_eq x.group group) (record {
        task = at.0;
        life = m.task;
        positive = slot-positive table at.0 m.task empty m.there;
        within = omega (arith, slot-below table at.0 m.task wide m.there);
        live = live_from_slot table at.0 m.task m.there;
        passed = eq-eqb m.task.group group m.grouped;
      })

  -- ---- A lone member

  other_slots : (t u : ℕ) → u ≢ t → (group : ℕ) → is_in group (slot (without_task t table) u) ≡ is_in group (slot table u)
  other_slots t u ne group = ap (is_in group) (slot-without_task_other table t u ne)

  -- with one task less, its group counts one less
  one_less : (group t : ℕ) (m : Member table group t) → count_by (is_in group) table.slots ≡ count_by (is_in group) (without_task t table).slots + 1
  one_less group t m =
      let less = count-without_task table t m.task group wide (slot-below table t m.task wide m.there) m.there in
      less ∙ ap (λ n. count_by (is_in group) (without_task t table).slots + n) (cond-true (nat_eq m.task.group group) 1 0 (eq-eqb m.task.group group m.grouped))

  alone_parts : (group t : ℕ) → IsTrue (is_alone (bounds_of patches) (outlines_of (leg_tasks table)) group t) → (u : ℕ) (x : LegTask) → slot table u ≡ Some x → x.group ≡ group → u ≡ t
  alone_parts group t h u x there grouped =
      let parts = and_parts (on_live false (λ y. nat_eq y.group group) (outlines_of (leg_tasks table) t)) (each_live (bounds_of patches) (outlines_of (leg_tasks table)) (λ other y. not (nat_eq y.group group) || nat_eq other t)) h in
      let each = sym (each_live-map (bounds_of patches) outline_of (leg_tasks table) (λ other y. not (nat_eq y.group group) || nat_eq other t)) ∙ parts.1 in
      let passed = each_live-at (bounds_of patches) (leg_tasks table) (λ other y. not (nat_eq y.group group) || nat_eq other t) each u x (slot-positive table u x empty there) (omega (arith, slot-below table u x wide there)) (live_from_slot table u x there) in
      ⊎_elim
      (λ (out : not (nat_eq x.group group) ≡ true). let no = not-true (nat_eq x.group group) out in let yes = eq-eqb x.group group grouped in absurd (cc))
      (λ (same : nat_eq u t ≡ true). eqb-true u t same)
      (or_cases (not (nat_eq x.group group)) (nat_eq u t) passed)

  -- beside a member that is alone no slot counts
  none_beside : (group t : ℕ) → Member table group t → IsTrue (is_alone (bounds_of patches) (outlines_of (leg_tasks table)) group t) → (u : ℕ) → u < 65536 → is_in group (slot (without_task t table) u) ≡ false
  none_beside group t m h u lt =
      ⊎_elim
      (λ (e : u ≡ t). subst (λ v. is_in group (slot (without_task t table) v) ≡ false) (sym e) (ap (is_in group) (slot-without_task table t wide (slot-below table t m.task wide m.there))))
      (λ (ne : u ≡ t → ⊥). other_slots t u ne group ∙ false_from_ne_true (is_in group (slot table u)) (λ yes. let o = member-is table group u yes in ne (alone_parts group t h u o.task o.there o.grouped)))
      (cases_eq u t)

  -- a member that is alone is the one that counts
  pub alone-is : (group t : ℕ) → Member table group t → IsTrue (is_alone (bounds_of patches) (outlines_of (leg_tasks table)) group t) → count_by (is_in group) table.slots ≡ 1
  alone-is group t m h =
      let narrow = IsWide-without_task table t wide in
      let none = count_zero-from (is_in group) (without_task t table).slots None (λ u lt. none_beside group t m h u (omega (arith, lt, narrow.slots))) in
      omega (arith, one_less group t m, none)

  -- where one counts, no other task is a member
  not_beside : (group t : ℕ) → Member table group t → count_by (is_in group) table.slots ≡ 1 → (u : ℕ) (x : LegTask) → slot table u ≡ Some x → u ≢ t → nat_eq x.group group ≡ false
  not_beside group t m e u x there ne =
      let narrow = IsWide-without_task table t wide in
      let below = slot-below table u x wide there in
      let none : count_by (is_in group) (without_task t table).slots ≡ 0 = omega (arith, one_less group t m, e) in
      sym (ap (is_in group) there) ∙ sym (other_slots t u ne group) ∙ count_zero-at (is_in group) (without_task t table).slots none u None (omega (arith, below, narrow.slots))

  -- a member that is the one that counts is alone
  pub alone-from : (group t : ℕ) → Member table group t → count_by (is_in group) table.slots ≡ 1 → IsTrue (is_alone (bounds_of patches) (outlines_of (leg_tasks table)) group t)
  alone-from group t m e =
      and_from (on_live false (λ y. nat_eq y.group group) (outlines_of (leg_tasks table) t)) (each_live (bounds_of patches) (outlines_of (leg_tasks table)) (λ other y. not (nat_eq y.group group) || nat_eq other t))
      (subst (λ fate. on_live false (λ y. nat_eq y.group group) (map_live outline_of fate) ≡ true) (sym (live_from_slot table t m.task m.there)) (eq-eqb m.task.group group m.grouped))
      (each_live-map (bounds_of patches) outline_of (leg_tasks table) (λ other y. not (nat_eq y.group group) || nat_eq other t)
      ∙ each_live-from (bounds_of patches) (leg_tasks table) (λ other y. not (nat_eq y.group group) || nat_eq other t) (λ u x positive within live.
      ⊎_elim
      (λ (same : u ≡ t). or_right (not (nat_eq x.group group)) (nat_eq u t) (eq-eqb u t same))
      (λ (ne : u ≡ t → ⊥). or_left (not (nat_eq x.group group)) (nat_eq u t) (not_from_false (nat_eq x.group group) (not_beside group t m e u x (slot_from_live table u x live) ne)))
      (cases_eq u t)))

  -- a member that is alone is the only one
  pub lone-is : (group t : ℕ) → Member table group t → IsTrue (is_alone (bounds_of patches) (outlines_of (leg_tasks table)) group t) → IsLone table group t
  lone-is group t m h u =
      ⊎_elim
      (λ (e : u ≡ t). ap (λ v. is_in group (slot table v)) e ∙ member-from table group t m ∙ sym (eq-eqb u t e))
      (λ (ne : u ≡ t → ⊥). false_from_ne_true (is_in group (slot table u)) (λ yes. let o = member-is table group u yes in ne (alone_parts group t h u o.task o.there o.grouped)) ∙ sym (ne_eqb u t ne))
      (cases_eq u t)

  -- the only member is alone
  pub lone-from : (group t : ℕ) → Member table group t → IsLone table group t → IsTrue (is_alone (bounds_of patches) (outlines_of (leg_tasks table)) group t)
  lone-from group t m lone =
      and_from (on_live false (λ y. nat_eq y.group group) (outlines_of (leg_tasks table) t)) (each_live (bounds_of patches) (outlines_of (leg_tasks table)) (λ other y. not (nat_eq y.group group) || nat_eq other t))
      (subst (λ fate. on_live false (λ y. nat_eq y.group group) (map_live outline_of fate) ≡ true) (sym (live_from_slot table t m.task m.there)) (eq-eqb m.task.group group m.grouped))
      (each_live-map (bounds_of patches) outline_of (leg_tasks table) (λ other y. not (nat_eq y.group group) || nat_eq other t)
      ∙ each_live-from (bounds_of patches) (leg_tasks table) (λ other y. not (nat_eq y.group group) || nat_eq other t) (λ u x positive within live.
      ⊎_elim
      (λ (same : u ≡ t). or_right (not (nat_eq x.group group)) (nat_eq u t) (eq-eqb u t same))
      (λ (ne : u ≡ t → ⊥). or_left (not (nat_eq x.group group)) (nat_eq u t) (not_from_false (nat_eq x.group group) (sym (ap (is_in group) (slot_from_live table u x live)) ∙ lone u ∙ ne_eqb u t ne)))
      (cases_eq u t)))

  -- ---- The tasks that wait

  module _ (waiting : Numbers) (target : ℕ) (waits : (n : ℕ) → has waiting n ≡ is_off target (slot table n)) where
    -- a live task waits where it is off the target
    waits_at : (t : ℕ) (x : LegTask) → slot table t ≡ Some x → has waiting t ≡ not (nat_eq x.level target)
    waits_at t x there = waits t ∙ ap (is_off target) there

    -- where none waits, each live task is on the target
    pub on_target-is : IsEmpty waiting → IsTrue (each_live (bounds_of patches) (leg_tasks table) (λ t x. nat_eq x.level target))
    on_target-is none =
        each_live-from (bounds_of patches) (leg_tasks table) (λ t x. nat_eq x.level target) (λ t x positive within live.
        not-false (nat_eq x.level target) (sym (waits_at t x (slot_from_live table t x live)) ∙ none t))

    on_target_at : (h : IsTrue (each_live (bounds_of patches) (leg_tasks table) (λ t x. nat_eq x.level target))) (t : ℕ) (o : Option LegTask) → slot table t ≡ o → is_off target o ≡ false
    on_target_at h t None e = refl
    on_target_at h t (Some x) e =
        not_from_true (nat_eq x.level target) (each_live-at (bounds_of patches) (leg_tasks table) (λ u y. nat_eq y.level target) h t x (slot-positive table t x empty e) (omega (arith, slot-below table t x wide e)) (live_from_slot table t x e))

    -- where each live task is on the target, none waits
    pub on_target-from : IsTrue (each_live (bounds_of patches) (leg_tasks table) (λ t x. nat_eq x.level target)) → IsEmpty waiting
    on_target-from h = λ t. waits t ∙ on_target_at h t (slot table t) refl

    -- none waits where each live task is on the target
    pub on_target : IsEmpty waiting ↔ IsTrue (each_live (bounds_of patches) (leg_tasks table) (λ t x. nat_eq x.level target))
    on_target = (on_target-is, on_target-from)

    -- a group that waits has a member that waits
    pub waits-is : (group : ℕ) → IsTrue (some_live (bounds_of patches) (leg_tasks table) (λ t x. nat_eq x.group group && not (nat_eq x.level target))) → Waiter table waiting group
    waits-is group h =
        let w = some_live-is (bounds_of patches) (leg_tasks table) (λ t x. nat_eq x.group group && not (nat_eq x.level target)) h in
        let parts = and_parts (nat_eq w.life.group group) (not (nat_eq w.life.level target)) w.passed in
        let there = slot_from_live table w.task w.life w.live in
        record {
          number = w.task;
          waits = waits_at w.task w.life there ∙ parts.1;
          member = record { task = w.life; there = there; grouped = eqb-true w.life.group group parts.0 };
        }

    -- a group with a member that waits, waits
    pub waits-from : (group : ℕ) → Waiter table waiting group → IsTrue (some_live (bounds_of patches) (leg_tasks table) (λ t x. nat_eq x.group group && not (nat_eq x.level target)))
    waits-from group w =
        some_live-from (bounds_of patches) (leg_tasks table) (λ t x. nat_eq x.group group && not (nat_eq x.level target)) (record {
          task = w.number;
          life = w.member.task;
          positive = slot-positive table w.number w.member.task empty w.member.there;
          within = omega (arith, slot-below table w.number w.member.task wide w.member.there);
          live = live_from_slot table w.number w.member.task w.member.there;
          passed = and_from (nat_eq w.member.task.group group) (not (nat_eq w.member.task.level target)) (eq-eqb w.member.task.group group w.member.grouped) (sym (waits_at w.number w.member.task w.member.there) ∙ w.waits);
        })

    -- a group waits where a member waits
    pub it_waits : (group : ℕ) → IsTrue (some_live (bounds_of patches) (leg_tasks table) (λ t x. nat_eq x.group group && not (nat_eq x.level target))) ↔ Waiter table waiting group
    it_waits group = (waits-is group, waits-from group)

  -- whether a member is alone, by a test that tells
  pub lone-told : (group t : ℕ) → Member table group t → (lone : Bool) → IsTrue lone ↔ IsLone table group t → lone ≡ is_alone (bounds_of patches) (outlines_of (leg_tasks table)) group t
  lone-told group t m lone told = by lone refl (is_alone (bounds_of patches) (outlines_of (leg_tasks table)) group t) refl
    where
      by : (a : Bool) → lone ≡ a → (b : Bool) → is_alone (bounds_of patches) (outlines_of (leg_tasks table)) group t ≡ b → lone ≡ is_alone (bounds_of patches) (outlines_of (leg_tasks table)) group t
      by true one true alone = one ∙ sym alone
      by false more false beside = more ∙ sym beside
      by true one false beside = let yes = lone-from group t m (told.0 one) in absurd (cc)
      by false more true alone = let yes = told.1 (lone-is group t m alone) in absurd (cc)
