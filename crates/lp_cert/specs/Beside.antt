-- Certificates whose first lines are the same.
use Rattle.std.specs.Prelude.{◌≡◌, ℕ, ◌≤◌, List, ◌++◌, length, take}
use Rattle.lp_definitions.specs.declared.line.Line.{Line}

-- lines begin with so many of the first of others, and these come after them
pub record BeginWith (lines beside : List Line) (count : ℕ) (after : List Line) : Type 0 where
  pub within : count ≤ length beside
  pub whole : lines ≡ take count beside ++ after
