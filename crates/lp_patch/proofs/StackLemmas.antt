-- The versions of a function at the levels.
use Rattle.std.proofs.Common.{◌≡◌, ℕ, zero, suc, ◌+◌, ◌-◌, ◌≤◌, ◌<◌, List, [], ◌∷◌, length, min, true, Bool, nat_le, if◌then◌else◌, All, sub-one, refl, sym, ap, subst, ◌∙◌, zero-add, suc-add, get_or, set, below_more, get_or-set_other, get_or-set_same, ◌≢◌, ◌++◌, false, slice_index_or, arith}
use Rattle.std.proofs.lemmas.Bool.Decides.{nat_tests}
use Rattle.std.proofs.Math.ListN.{get_or-append}
use Rattle.std.proofs.Math.Seq.{get_or-append_seam}
use Rattle.std.proofs.lemmas.List.Elements.{All-nil, All-head, All-get_or}
use Rattle.lp_patch.specs.inside.Stacks.{IsRow}
use Rattle.lp_patch.specs.Patches.{Patch, Patches, ShareSymbols, symbols_of, has, patch_has, version}

patch-past : (patches : Patches) (k : ℕ) → length patches ≤ k → slice_index_or patches k [] ≡ []
patch-past [] k h = refl
patch-past (s ∷ patches) zero h = absurd (omega arith)
patch-past (s ∷ patches) (suc k) h = patch-past patches k (omega arith)

version-past_by : (patches : Patches) (func n : ℕ) → version patches func (n + length patches) ≡ version patches func (length patches)
unfolding version
version-past_by patches func zero = rw zero-add refl
version-past_by patches func (suc n) =
    let empty = patch-past patches (n + length patches) (omega arith) in
    rw (suc-add, empty) (version-past_by patches func n)

-- past the last patch the version stays
pub version-past : (patches : Patches) (func k : ℕ) → length patches ≤ k → version patches func k ≡ version patches func (length patches)
version-past patches func k h =
    let at : k ≡ (k - length patches) + length patches = omega arith in
    ap (version patches func) at ∙ version-past_by patches func (k - length patches)

-- with at most 16 patches, a level above 16 has the versions of 16
pub version-min : (patches : Patches) (func level : ℕ) → length patches ≤ 16 → version patches func (min level 16) ≡ version patches func level
version-min patches func level few = by (nat_le level 16) refl
  where
    by : (b : Bool) → nat_le level 16 ≡ b → version patches func (min level 16) ≡ version patches func level
    by true e = let least : min level 16 ≡ level = grind (arith, nat_tests, e) in ap (version patches func) least
    by false e =
        let least : min level 16 ≡ 16 = grind (arith, nat_tests, e) in
        ap (version patches func) least ∙ version-past patches func 16 few ∙ sym (version-past patches func level (grind (arith, nat_tests, e)))

-- at level 0 nothing is patched
pub version-zero : (patches : Patches) (func : ℕ) → version patches func 0 ≡ 0
unfolding version
version-zero patches func = refl

-- one level higher
pub version-next : (patches : Patches) (func level : ℕ) → 1 ≤ level → version patches func level ≡ (if patch_has patches level func then level else version patches func (level - 1))
unfolding version
version-next patches func zero h = absurd (omega arith)
version-next patches func (suc level) h = rw sub-one refl

-- a patch is one of the list, or none
pub patch_has-at : (patches : Patches) (patch func : ℕ) → 1 ≤ patch → patch_has patches patch func ≡ has (slice_index_or patches (patch - 1) []) func
patch_has-at patches zero func h = absurd (omega arith)
patch_has-at patches (suc patch) func h = rw sub-one refl

-- no patch has a function past the symbols that they speak of
get_or-short : (patch : Patch) (func : ℕ) → length patch ≤ func → has patch func ≡ false
get_or-short [] func h = refl
get_or-short (b ∷ patch) zero h = absurd (omega arith)
get_or-short (b ∷ patch) (suc func) h = get_or-short patch func (omega arith)

patch-unknown : (patches : Patches) (count func k : ℕ) → count ≤ func → All (λ patch. length patch ≡ count) patches → has (slice_index_or patches k []) func ≡ false
patch-unknown patches count func k far same = by (nat_le (length patches) k) refl
  where
    by : (b : Bool) → nat_le (length patches) k ≡ b → has (slice_index_or patches k []) func ≡ false
    by true e = ap (λ (p : Patch). has p func) (patch-past patches k (grind (arith, nat_tests, e)))
    by false e =
        let within : k < length patches = grind (arith, nat_tests, e) in
        let size = All-get_or (λ (patch : Patch). length patch ≡ count) patches k [] within same in
        get_or-short (slice_index_or patches k []) func (omega (arith, size))

pub version-unknown : (patches : Patches) (count func level : ℕ) → count ≤ func → All (λ patch. length patch ≡ count) patches → version patches func level ≡ 0
unfolding version
version-unknown patches count func zero far same = refl
version-unknown patches count func (suc level) far same =
    rw (patch-unknown patches count func level far same) (version-unknown patches count func level far same)

-- a further level of a row
pub IsRow-set : (patches : Patches) (func level value : ℕ) (row : List ℕ) → level < length row → ((k : ℕ) → k < level → get_or row k 0 ≡ version patches func k) → value ≡ version patches func level → (k : ℕ) → k < level + 1 → get_or (set row level value) k 0 ≡ version patches func k
IsRow-set patches func level value row within so_far same =
    below_more _ _
    (λ k h. let ne : k ≢ level = omega arith in rw get_or-set_other (so_far k h))
    (rw get_or-set_same same)

-- a further row of a table
pub rows-push : (patches : Patches) (rows : List (List ℕ)) (row : List ℕ) → ((func : ℕ) → func < length rows → IsRow patches func (slice_index_or rows func [])) → IsRow patches (length rows) row → (func : ℕ) → func < length rows + 1 → IsRow patches func (slice_index_or (rows ++ row ∷ []) func [])
rows-push patches rows row so_far new =
    below_more _ _
    (λ func h. rw (get_or-append rows (row ∷ []) [] func h) (so_far func h))
    (rw (get_or-append_seam rows row [] []) new)

-- the symbols that all patches share are those of the first
pub ShareSymbols-first : (patches : Patches) → ShareSymbols patches → All (λ patch. length patch ≡ symbols_of patches) patches
ShareSymbols-first [] (count, same) = All-nil (λ patch. length patch ≡ 0)
ShareSymbols-first (first ∷ patches) (count, same) =
    let head = All-head (λ (patch : Patch). length patch ≡ count) first patches same in
    subst (λ n. All (λ (patch : Patch). length patch ≡ n) (first ∷ patches)) (sym head) same
