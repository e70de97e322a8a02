-- The level of each task number, with the set of the numbers that live.
use Rattle.std.specs.Prelude.{◌≡◌, ℕ, List, Option, None, is_some, slice_index_or}
use Rattle.lp_stack.specs.declared.number.Level.{Level}
use Rattle.lp_numbers.specs.Numbers.{Numbers, has}

-- the members are the numbers that have a level
abbrev pub AreLive : Numbers → List (Option Level) → Type 0
AreLive live levels = (t : ℕ) → has live t ≡ is_some (slice_index_or levels t None)
