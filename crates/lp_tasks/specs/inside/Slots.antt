-- How the table of tasks is kept.
use Rattle.std.specs.Prelude.{◌≡◌, ℕ, ◌-◌, ◌++◌, true, List, Option, None, length, replicate, is_some, slice_index_or}
use Rattle.lp_numbers.specs.Numbers.{Numbers, has}
use Rattle.lp_numbers.specs.Groups.{Groups, is_member}
use Rattle.lp_definitions.specs.Leg.{LegTask}
use Rattle.lp_tasks.specs.inside.Table.{is_in}

-- a slot of each number, empty where none is made yet
unfoldable pub padded : List (Option LegTask) → List (Option LegTask)
padded slots = slots ++ replicate (65536 - length slots) None

-- slots for all numbers, the set of those that have a live task, and the members of each group
pub record IsTable (slots : List (Option LegTask)) (live used : Numbers) (members : Groups) : Type 0 where
  pub slots_wide : length slots ≡ 65536
  pub used_wide : length used ≡ 65536
  pub living : (t : ℕ) → has live t ≡ is_some (slice_index_or slots t None)
  -- who lives has a number that was used
  pub known : (t : ℕ) → is_some (slice_index_or slots t None) ≡ true → has used t ≡ true
  pub grouped : (group t : ℕ) → is_member members group t ≡ is_in group (slice_index_or slots t None)
