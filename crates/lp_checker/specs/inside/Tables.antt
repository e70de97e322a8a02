-- How the fold keeps the tasks.
use Rattle.std.specs.Prelude.{◌≡◌, ℕ, ◌-◌, ◌<◌, ◌≤◌, ◌++◌, true, List, Option, None, length, count_by, slice_index, is_some, replicate}
use Rattle.lp_numbers.specs.Numbers.{Numbers, has}
use Rattle.lp_definitions.specs.Leg.{LegTask}
use Rattle.lp_machine.specs.Table.{Table, IsWide, slot}
use Rattle.lp_tasks.specs.inside.Table.{is_in}

-- a slot for each number: those after the ones that there are have no task
unfoldable pub all_slots : List (Option LegTask) → List (Option LegTask)
all_slots slots = slots ++ replicate (65536 - length slots) None

-- the numbers that were used, and the number of live members of each group
pub record IsCounted (table : Table) (members : List ℕ) : Type 0 where
  pub wide : IsWide table
  -- task numbers begin with 1
  pub nobody : slot table 0 ≡ None
  -- who lives has a number that was used
  pub known : (t : ℕ) → is_some (slot table t) ≡ true → has table.used t ≡ true
  pub counted : (group : ℕ) → group < 65536 → slice_index members group ≡ count_by (is_in group) table.slots

-- as many slots as were wanted so far
pub record IsKept (slots : List (Option LegTask)) (used : Numbers) (members : List ℕ) : Type 0 where
  pub few : length slots ≤ 65536
  pub counted : IsCounted (record { slots = all_slots slots; used = used }) members
