-- The table of versions that a stack of patches keeps.
use Rattle.std.specs.Prelude.{◌≡◌, ℕ, ◌≤◌, ◌<◌, List, [], length, slice_index, slice_index_or, All}
use Rattle.lp_patch.specs.Patches.{Patches, version, symbols_of}

-- a function's version at each level
abbrev pub IsRow : Patches → ℕ → List ℕ → Type 0
IsRow patches func row = (level : ℕ) → level ≤ 16 → slice_index row level ≡ version patches func level

-- a row for each function
pub record AreRows (patches : Patches) (rows : List (List ℕ)) : Type 0 where
  pub count : length rows ≡ symbols_of patches
  pub right : (func : ℕ) → func < length rows → IsRow patches func (slice_index_or rows func [])

-- 1 to 16 patches over the same symbols, and the versions of each function
pub record IsStack (patches : Patches) (rows : List (List ℕ)) : Type 0 where
  pub some : 1 ≤ length patches
  pub few : length patches ≤ 16
  pub same : All (λ patch. length patch ≡ symbols_of patches) patches
  pub rows_right : AreRows patches rows
