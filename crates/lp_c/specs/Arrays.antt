-- Patches in flat arrays: the functions of all, one patch after the other, and how many each has.
use Rattle.std.specs.Prelude.{◌≡◌, ◌==◌, ℕ, List, [], ◌∷◌, ◌++◌, map, length, take, drop}
use Rattle.std.specs.List.{list_any}
use Rattle.lp_symbols.specs.declared.sym_id.SymId.{SymId}
use Rattle.lp_patch.specs.Patches.{Patch, Patches, has}

-- the symbols of these numbers
abbrev pub symbols_of : List ℕ → List SymId
symbols_of functions = map (λ (n : ℕ). (let symbol : SymId = record { 0 = n } in symbol)) functions

-- the patch of these functions, over so many symbols
pub record IsSet (symbols : ℕ) (functions : List ℕ) (patch : Patch) : Type 0 where
  pub members : (func : ℕ) → has patch func ≡ list_any (λ id. id.0 == func) (symbols_of functions)
  pub symbols_are : length patch ≡ symbols

-- each patch has its functions, and none is left
abbrev pub AreSets : ℕ → List ℕ → List ℕ → Patches → Type 0
AreSets symbols functions [] [] = functions ≡ []
AreSets symbols functions [] (patch ∷ patches) = ⊥
AreSets symbols functions (n ∷ lengths) [] = ⊥
AreSets symbols functions (n ∷ lengths) (patch ∷ patches) = IsSet symbols (take n functions) patch × AreSets symbols (drop n functions) lengths patches

-- there is one patch more, with these functions
pub record HasMore (symbols : ℕ) (functions : List ℕ) (before after : Patches) : Type 0 where
  pub patch : Patch
  pub set : IsSet symbols functions patch
  pub items : after ≡ before ++ patch ∷ []
