-- Patches stacked on one another, and the versions of functions that they make.
use Rattle.std.specs.Prelude.{◌≡◌, All, ℕ, zero, suc, Bool, false, not, List, [], ◌∷◌, ◌++◌, length, nat_le, nat_lt, if◌then◌else◌, Option, None, Some, ◌==◌, slice_index_or}
use Rattle.std.specs.List.{list_any}
use Rattle.lp_symbols.specs.declared.sym_id.SymId.{SymId}
use Rattle.lp_stack.specs.declared.frame.Frame.{Frame}
use Rattle.lp_patch.specs.declared.fault.PatchFault.{PatchFault}
use Rattle.lp_patch.specs.declared.fault.PatchFault.TheVariants.{Empty, Unknown, Doubled, TooMany, TooManyPatches}

-- ---- One patch

-- a patch says of each symbol whether it has a new version of that function
abbrev pub Patch : Type 0
Patch = List Bool

-- whether a patch has a function
abbrev pub has : Patch → ℕ → Bool
has patch func = slice_index_or patch func false

-- the fault of the first symbol that isn't below the count, or is among those seen before it
abbrev pub first_fault : ℕ → List SymId → List SymId → Option PatchFault
first_fault count seen [] = None
first_fault count seen (id ∷ ids) =
    if nat_le count id.0 then Some (Unknown id)
    else if list_any (λ s. s.0 == id.0) seen then Some (Doubled id)
    else first_fault count (seen ++ id ∷ []) ids

-- why these symbols, of this count, make no patch; None where they do
abbrev pub patch_refusal : ℕ → List SymId → Option PatchFault
patch_refusal count ids =
    if length ids == 0 then Some Empty
    else if nat_lt 256 (length ids) then Some TooMany
    else first_fault count [] ids

-- ---- Patches on one another

-- the patches, the lowest in front. Patch numbers begin with 1
abbrev pub Patches : Type 0
Patches = List Patch

-- whether the patch of this number has the function
abbrev pub patch_has : Patches → ℕ → ℕ → Bool
patch_has patches zero func = false
patch_has patches (suc before) func = has (slice_index_or patches before []) func

-- the version of a function at a level: the greatest patch number up to the level whose patch has it, else 0
unfoldable pub version : Patches → ℕ → ℕ → ℕ
version patches func zero = 0
version patches func (suc level) = if patch_has patches (suc level) func then suc level else version patches func level

-- the patches are over the same symbols
abbrev pub ShareSymbols : Patches → Type 0
ShareSymbols patches = (count : ℕ) × All (λ patch. length patch ≡ count) patches

-- how many symbols the patches speak of
abbrev pub symbols_of : Patches → ℕ
symbols_of patches = length (slice_index_or patches 0 [])

-- why these patches make no stack; None where they do
abbrev pub stack_refusal : Patches → Option PatchFault
stack_refusal patches =
    if length patches == 0 then Some Empty
    else if nat_lt 16 (length patches) then Some TooManyPatches
    else None

-- ---- What a transition heads for

-- the patches, and the level to which a transition takes the tasks
pub record Aim : Type 0 where
  pub patches : Patches
  pub target : ℕ

-- a frame is stale if its function's version at the frame's level isn't the version at the target
abbrev pub is_stale : Aim → Frame → Bool
is_stale aim frame = not (version aim.patches frame.func.0 frame.level.0 == version aim.patches frame.func.0 aim.target)
