-- A change of the table of tasks is a change of the tasks' fates.
use Rattle.std.proofs.Common.{◌≡◌, ◌≢◌, ℕ, zero, suc, ◌<◌, Bool, true, false, is_some, List, length, get_or, Option, Some, None, if◌then◌else◌, nat_eq, refl, sym, ap, ap₂, subst, ◌∙◌, ⊎_elim, arith}
use Rattle.std.proofs.lemmas.Bool.{false≢true, cases_eq, eq-eqb, ne_eqb, cond-true, cond-false}
use Rattle.std.proofs.lemmas.List.{length-set, get_or-set_same, get_or-set_other, get_or_default}
use Rattle.std.specs.Option.{option_map}
use mathlib.Core.Path.{fun_ext}
use Rattle.lp_numbers.specs.Numbers.{has}
use Rattle.lp_definitions.specs.Tasks.{Unused, Live, Dead, map_live, change}
use Rattle.lp_definitions.specs.Leg.{LegTask}
use Rattle.lp_machine.specs.Table.{Table, slot, fate_at, leg_tasks, IsWide, Engine, state_in}
use Rattle.lp_tasks.specs.inside.Table.{IsBlank, changed, with_task, without_task}
use Rattle.lp_definitions.specs.Sound.{IsSound}

-- ---- Slots

-- a slot of a wide table
slot_within : (table : Table) (t : ℕ) → IsWide table → t < 65536 → t < length table.slots
slot_within table t wide h = omega (arith, wide.slots)

-- a number of a wide table
used_within : (table : Table) (t : ℕ) → IsWide table → t < 65536 → t < length table.used
used_within table t wide h = omega (arith, wide.used)

-- the slot that is changed
pub slot-changed : (table : Table) (t : ℕ) (f : LegTask → LegTask) → IsWide table → t < 65536 → slot (changed t f table) t ≡ option_map f (slot table t)
slot-changed table t f wide h = get_or-set_same table.slots t (option_map f (slot table t)) None (slot_within table t wide h)

-- the other slots are as they were
pub slot-changed_other : (table : Table) (t u : ℕ) (f : LegTask → LegTask) → u ≢ t → slot (changed t f table) u ≡ slot table u
slot-changed_other table t u f ne = get_or-set_other table.slots t u (option_map f (slot table t)) None ne

-- the slot that gets a task
pub slot-with_task : (table : Table) (t : ℕ) (x : LegTask) → IsWide table → t < 65536 → slot (with_task t x table) t ≡ Some x
slot-with_task table t x wide h = get_or-set_same table.slots t (Some x) None (slot_within table t wide h)

-- the other slots are as they were
pub slot-with_task_other : (table : Table) (t u : ℕ) (x : LegTask) → u ≢ t → slot (with_task t x table) u ≡ slot table u
slot-with_task_other table t u x ne = get_or-set_other table.slots t u (Some x) None ne

-- the number of a new task is used
pub used-with_task : (table : Table) (t : ℕ) (x : LegTask) → IsWide table → t < 65536 → has (with_task t x table).used t ≡ true
used-with_task table t x wide h = get_or-set_same table.used t true false (used_within table t wide h)

-- the other numbers are as they were
pub used-with_task_other : (table : Table) (t u : ℕ) (x : LegTask) → u ≢ t → has (with_task t x table).used u ≡ has table.used u
used-with_task_other table t u x ne = get_or-set_other table.used t u true false ne

-- the slot that loses its task
pub slot-without_task : (table : Table) (t : ℕ) → IsWide table → t < 65536 → slot (without_task t table) t ≡ None
slot-without_task table t wide h = get_or-set_same table.slots t None None (slot_within table t wide h)

-- the other slots are as they were
pub slot-without_task_other : (table : Table) (t u : ℕ) → u ≢ t → slot (without_task t table) u ≡ slot table u
slot-without_task_other table t u ne = get_or-set_other table.slots t u None None ne

-- ---- Wide tables stay wide

-- a change keeps a table wide
pub IsWide-changed : (table : Table) (t : ℕ) (f : LegTask → LegTask) → IsWide table → IsWide (changed t f table)
IsWide-changed table t f wide = record {
  slots = length-set table.slots t (option_map f (slot table t)) ∙ wide.slots;
  used = wide.used;
}

-- a new task keeps a table wide
pub IsWide-with_task : (table : Table) (t : ℕ) (x : LegTask) → IsWide table → IsWide (with_task t x table)
IsWide-with_task table t x wide = record {
  slots = length-set table.slots t (Some x) ∙ wide.slots;
  used = length-set table.used t true ∙ wide.used;
}

-- a death keeps a table wide
pub IsWide-without_task : (table : Table) (t : ℕ) → IsWide table → IsWide (without_task t table)
IsWide-without_task table t wide = record {
  slots = length-set table.slots t None ∙ wide.slots;
  used = wide.used;
}

-- ---- Fates

-- a change of a live task changes its fate
fate-map : (f : LegTask → LegTask) (o : Option LegTask) (used : Bool) → fate_at (option_map f o) used ≡ map_live f (fate_at o used)
fate-map f None true = refl
fate-map f None false = refl
fate-map f (Some x) used = refl

-- a function that differs from another at one number
one_point : {A : Type 0} (t : ℕ) (new old : ℕ → A) (there : ℕ → A) → new t ≡ there t → ((u : ℕ) → u ≢ t → new u ≡ old u) → new ≡ (λ u. if nat_eq u t then there u else old u)
one_point t new old there same other =
    fun_ext (λ u.
    ⊎_elim
    (λ (e : u ≡ t). subst (λ v. new v ≡ there v) (sym e) same ∙ sym (cond-true (nat_eq u t) (there u) (old u) (eq-eqb u t e)))
    (λ (ne : u ≡ t → ⊥). other u ne ∙ sym (cond-false (nat_eq u t) (there u) (old u) (ne_eqb u t ne)))
    (cases_eq u t))

-- one live task is changed
pub leg_tasks-changed : (table : Table) (t : ℕ) (f : LegTask → LegTask) → IsWide table → t < 65536 → leg_tasks (changed t f table) ≡ change t f (leg_tasks table)
leg_tasks-changed table t f wide h =
    one_point t (leg_tasks (changed t f table)) (leg_tasks table) (λ u. map_live f (leg_tasks table u))
    (ap (λ o. fate_at o (has table.used t)) (slot-changed table t f wide h) ∙ fate-map f (slot table t) (has table.used t))
    (λ u ne. ap (λ o. fate_at o (has table.used u)) (slot-changed_other table t u f ne))

-- a number is used for a live task
pub leg_tasks-with_task : (table : Table) (t : ℕ) (x : LegTask) → IsWide table → t < 65536 → leg_tasks (with_task t x table) ≡ (λ u. if nat_eq u t then Live x else leg_tasks table u)
leg_tasks-with_task table t x wide h =
    one_point t (leg_tasks (with_task t x table)) (leg_tasks table) (λ u. Live x)
    (ap₂ fate_at (slot-with_task table t x wide h) (used-with_task table t x wide h))
    (λ u ne. ap₂ fate_at (slot-with_task_other table t u x ne) (used-with_task_other table t u x ne))

-- a task dies
pub leg_tasks-without_task : (table : Table) (t : ℕ) → IsWide table → t < 65536 → has table.used t ≡ true → leg_tasks (without_task t table) ≡ (λ u. if nat_eq u t then Dead else leg_tasks table u)
leg_tasks-without_task table t wide h used =
    one_point t (leg_tasks (without_task t table)) (leg_tasks table) (λ u. Dead)
    (ap₂ fate_at (slot-without_task table t wide h) used)
    (λ u ne. ap (λ o. fate_at o (has table.used u)) (slot-without_task_other table t u ne))

-- ---- The fate and the slot

fate_live : (o : Option LegTask) (used : Bool) (x : LegTask) → fate_at o used ≡ Live x → o ≡ Some x
fate_live (Some y) used x e = cc
fate_live None true x e = absurd (cc)
fate_live None false x e = absurd (cc)

-- a task that lives stands in its slot
pub slot_from_live : (table : Table) (t : ℕ) (x : LegTask) → leg_tasks table t ≡ Live x → slot table t ≡ Some x
slot_from_live table t x e = fate_live (slot table t) (has table.used t) x e

-- a task in a slot lives
pub live_from_slot : (table : Table) (t : ℕ) (x : LegTask) → slot table t ≡ Some x → leg_tasks table t ≡ Live x
live_from_slot table t x e = ap (λ o. fate_at o (has table.used t)) e

-- in a blank table every number is unused
pub leg_tasks-blank : (table : Table) → IsBlank table → leg_tasks table ≡ (λ t. Unused)
leg_tasks-blank table blank = fun_ext (λ t. ap₂ fate_at (blank.no_task t) (blank.none_used t))

-- a task of a sound state has a number from 1
pub slot-zero : (engine : Engine) → IsSound (state_in engine) → slot engine.table 0 ≡ None
slot-zero engine sound = at (slot engine.table 0) refl
  where
    at : (o : Option LegTask) → slot engine.table 0 ≡ o → o ≡ None
    at None e = refl
    at (Some x) e = let numbered = sound.numbered 0 x (live_from_slot engine.table 0 x e) in absurd (omega (arith, numbered.0))

-- so the number of a live task is above it
pub positive_of_live : (engine : Engine) → IsSound (state_in engine) → (t : ℕ) → is_some (slot engine.table t) ≡ true → 0 < t
positive_of_live engine sound zero lives = absurd (false≢true (sym (ap is_some (slot-zero engine sound)) ∙ lives))
positive_of_live engine sound (suc t) lives = omega arith

-- an entry, whatever stands past the end
pub value_at : (xs : List ℕ) (i v : ℕ) → i < length xs → v ≡ get_or xs i v → v ≡ get_or xs i 0
value_at xs i v within is = is ∙ get_or_default xs i v 0 within
