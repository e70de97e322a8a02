-- Which patches have a function, as the bits of one number.
use Rattle.std.specs.Prelude.{◌≡◌, ℕ, suc, ◌<◌, ◌≤◌, Bool, false, List, length, slice_index, ◌==◌}
use Rattle.std.specs.Int.{bit_at}
use Rattle.lp_patch.specs.Patches.{Patches, patch_has}
use Rattle.lp_stays.specs.Invariant.{Tally, IsKept}

-- whether a bit of a mask is 1; bit 0 is the lowest
unfoldable pub mask_has : ℕ → ℕ → Bool
mask_has mask bit = bit_at mask bit == 1

-- of so many patches, from the lowest, the mask has those that have the function
pub record HasFirst (patches : Patches) (func count mask : ℕ) : Type 0 where
  pub first : (below : ℕ) → below < count → mask_has mask below ≡ patch_has patches (suc below) func
  pub no_other : (below : ℕ) → count ≤ below → mask_has mask below ≡ false

-- of all of them
abbrev pub IsHolders : Patches → ℕ → ℕ → Type 0
IsHolders patches func mask = HasFirst patches func (length patches) mask

-- each of these masks has the patches that have the function of its place
abbrev pub AreHolders : Patches → List ℕ → Type 0
AreHolders patches masks = (func : ℕ) → func < length masks → IsHolders patches func (slice_index masks func)

-- what every count keeps, with the masks that it has of the functions
pub record IsCount (count : Tally) (masks : List ℕ) : Type 0 where
  pub kept : IsKept count
  pub holders : AreHolders count.patches masks
