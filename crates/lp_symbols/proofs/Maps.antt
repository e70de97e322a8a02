-- Searches of a list that a function was mapped over.
use Rattle.std.proofs.Common.{◌≡◌, String, ℕ, ◌+◌, Bool, false, not, cond, map, position, ◌||◌, ◌++◌, List, [], ◌∷◌, refl, ap}
use Rattle.std.proofs.lemmas.List.{length-map, map-append}
use Rattle.std.specs.Str.{bytes_eq}
use Rattle.std.specs.String.{string_bytes, string_eq}
use Rattle.indexmap.specs.IndexSet.{insert_key}
use Rattle.std.specs.List.{list_any, prefix_len, IsDistinct, AllByRecursion}

module _ {A B : Type 0} (f : A → B) where
  pub list_any-map : (p : B → Bool) (xs : List A) → list_any p (map f xs) ≡ list_any (λ x. p (f x)) xs
  list_any-map p [] = refl
  list_any-map p (x ∷ xs) = ap (λ b. p (f x) || b) (list_any-map p xs)

  prefix_len-map : (p : B → Bool) (xs : List A) → prefix_len p (map f xs) ≡ prefix_len (λ x. p (f x)) xs
  prefix_len-map p [] = refl
  prefix_len-map p (x ∷ xs) = ap (λ n. cond (p (f x)) (1 + n) 0) (prefix_len-map p xs)

  pub position-map : (p : B → Bool) (xs : List A) → position p (map f xs) ≡ position (λ x. p (f x)) xs
  position-map p xs = rw (prefix_len-map (λ x. not (p x)) xs, length-map xs f) refl

  pub AllByRecursion-map : (P : B → Type 0) (xs : List A) → AllByRecursion (λ x. P (f x)) xs → AllByRecursion P (map f xs)
  AllByRecursion-map P [] h = h
  AllByRecursion-map P (x ∷ xs) h = (h.0, AllByRecursion-map P xs h.1)

  pub IsDistinct-map : (eq : B → B → Bool) (xs : List A) → IsDistinct (λ x y. eq (f x) (f y)) xs → IsDistinct eq (map f xs)
  unfolding IsDistinct
  IsDistinct-map eq [] h = h
  IsDistinct-map eq (x ∷ xs) h = (AllByRecursion-map (λ y. eq (f x) y ≡ false) xs h.0, IsDistinct-map eq xs h.1)

-- what the searches of a mapped list are
pub ruleset maps = (list_any-map, position-map, length-map)

-- a key that isn't there goes last
pub bytes-insert_key : {A : Type 0} (ks : List (String A)) (k : String A) (name : List ℕ) → string_bytes k ≡ name → list_any (λ x. bytes_eq name (string_bytes x)) ks ≡ false → map string_bytes (insert_key string_eq ks k) ≡ map string_bytes ks ++ name ∷ []
bytes-insert_key ks k name same absent =
    let new : list_any (string_eq k) ks ≡ false = rw (← same) at absent in
    rw (new, map-append, same) refl
