-- The values of a table by its places.
use Rattle.std.proofs.Common.{◌≡◌, ℕ, zero, suc, List, [], ◌∷◌, ◌++◌, Option, Some, None, slice_get, slice_index_or, refl, ◌∙◌}

-- where there is a place
pub value_there : {A : Type 0} (places : List A) (n : ℕ) (x : A) → slice_get places n ≡ Some x → (blank : A) → slice_index_or places n blank ≡ x
value_there [] n x there blank = cc
value_there (y ∷ places) zero x there blank = cc
value_there (y ∷ places) (suc n) x there blank = value_there places n x there blank

-- and where there is none
pub blank_there : {A : Type 0} (places : List A) (n : ℕ) → slice_get places n ≡ None → (blank : A) → slice_index_or places n blank ≡ blank
blank_there [] n none blank = refl
blank_there (y ∷ places) zero none blank = cc
blank_there (y ∷ places) (suc n) none blank = blank_there places n none blank

-- ---- A place more

no_value_more : {A : Type 0} (blank : A) (places : List A) (n : ℕ) → slice_index_or (places ++ blank ∷ []) n blank ≡ slice_index_or places n blank
no_value_more blank [] zero = refl
no_value_more blank [] (suc n) = refl
no_value_more blank (x ∷ places) zero = refl
no_value_more blank (x ∷ places) (suc n) = no_value_more blank places n

pub same_more :
    {A : Type 0} (blank : A) (places old : List A) → ((n : ℕ) → slice_index_or places n blank ≡ slice_index_or old n blank) → (n : ℕ) →
    slice_index_or (places ++ blank ∷ []) n blank ≡ slice_index_or old n blank
same_more blank places old same n = no_value_more blank places n ∙ same n
