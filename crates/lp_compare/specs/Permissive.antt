-- What a model that is at least as permissive as another never loses.
use Rattle.std.specs.Prelude.{◌≡◌, ℕ, ◌≤◌, Some, Contains}
use Rattle.lp_models.specs.declared.name.ModelName.{ModelName}
use Rattle.lp_compare.specs.declared.comparison.Comparison.{Comparison}
use Rattle.lp_compare.specs.declared.comparison.Row.{Row}

-- where the leg completed under the second model, it completed under the first, at that event or before
abbrev pub CompletesNoLater : ModelName → ModelName → Comparison → Type 0
CompletesNoLater a b found =
    (row other : Row) → Contains found.rows row → row.model ≡ a → Contains found.rows other → other.model ≡ b →
    (event : ℕ) → other.complete ≡ Some event → (earlier : ℕ) × (earlier ≤ event) × (row.complete ≡ Some earlier)
