-- How a table of numbers is kept.
use Rattle.std.specs.Prelude.{ℕ, ◌≤◌}

-- no more places than numbers, and room for one of each
pub record HasPlaces (count capacity : ℕ) : Type 0 where
  pub few : count ≤ 65536
  pub room : 65536 ≤ capacity
