-- What the engine's calls do to its table of tasks.
use Rattle.std.specs.Prelude.{◌≡◌, ℕ, Bool, true, false, not, Option, Some, None, nat_eq, slice_set, IsSome}
use Rattle.std.specs.Option.{option_map}
use Rattle.lp_numbers.specs.Numbers.{has}
use Rattle.lp_definitions.specs.Leg.{LegTask}
use Rattle.lp_machine.specs.Table.{Table, slot, IsWide}

-- no number was ever used
pub record IsBlank (table : Table) : Type 0 where
  pub wide : IsWide table
  pub no_task : (t : ℕ) → slot table t ≡ None
  pub none_used : (t : ℕ) → has table.used t ≡ false

-- the number is used, if its task lives
abbrev pub IsKnown : Table → ℕ → Type 0
IsKnown table t = IsSome (slot table t) → has table.used t ≡ true

-- one live task is changed
abbrev pub changed : ℕ → (LegTask → LegTask) → Table → Table
changed t f table = record table { slots = slice_set table.slots t (option_map f (slot table t)) }

-- a number is used for a live task from now on
abbrev pub with_task : ℕ → LegTask → Table → Table
with_task t x table = record { slots = slice_set table.slots t (Some x); used = slice_set table.used t true }

-- a task is live no longer
abbrev pub without_task : ℕ → Table → Table
without_task t table = record table { slots = slice_set table.slots t None }

-- a live task is off the target
abbrev pub is_off : ℕ → Option LegTask → Bool
is_off target None = false
is_off target (Some x) = not (nat_eq x.level target)

-- a live task is a member of the group
abbrev pub is_in : ℕ → Option LegTask → Bool
is_in group None = false
is_in group (Some x) = nat_eq x.group group
