-- Lists that are cut in one way only: by the ranks of their items.
use Rattle.std.proofs.Common.{◌≡◌, ◌<◌, ℕ, suc, List, [], ◌∷◌, ◌++◌, map, refl, sym, ap, ◌∙◌, arith, append_assoc}
use Rattle.std.specs.List.{All, flat_map}
use Rattle.std.proofs.lemmas.List.Elements.{All-head, All-tail}

-- ---- What a list begins with

module _ {L : Type 0} (rank : L → ℕ) where
  -- an item of this rank
  abbrev pub Opens : ℕ → List L → Type 0
  Opens k [] = ⊥
  Opens k (l ∷ ls) = rank l ≡ k

  -- an item of a higher rank, if there is one
  abbrev pub Above : ℕ → List L → Type 0
  Above k [] = Unit {0}
  Above k (l ∷ ls) = k < rank l

  opens_more : (k : ℕ) (a b : List L) → Opens k a → Opens k (a ++ b)
  opens_more k [] b h = absurd h
  opens_more k (l ∷ a) b h = h

  opens_above : (k : ℕ) (a : List L) → Opens (suc k) a → Above k a
  opens_above k [] h = absurd h
  opens_above k (l ∷ a) h = omega arith

  above_lower : (k : ℕ) (a : List L) → Above (suc k) a → Above k a
  above_lower k [] h = tt
  above_lower k (l ∷ a) h = omega arith

  never_both : (k : ℕ) (a : List L) → Opens k a → Above k a → ⊥
  never_both k [] h above = h
  never_both k (l ∷ a) h above = omega arith

-- ---- What is written of several, each after the one before

module _ {X L : Type 0} (f : ℕ → X → List L) where
  -- the items of each, the first of which has this number
  abbrev pub blocks : ℕ → List X → List L
  blocks n [] = []
  blocks n (x ∷ xs) = f n x ++ blocks (suc n) xs

pub flat_map_blocks : {X L : Type 0} (f : X → List L) (n : ℕ) (xs : List X) → flat_map f xs ≡ blocks (λ _ x. f x) n xs
flat_map_blocks f n [] = refl
flat_map_blocks f n (x ∷ xs) = ap (λ l. f x ++ l) (flat_map_blocks f (suc n) xs)

pub map_blocks : {X L : Type 0} (f : X → L) (n : ℕ) (xs : List X) → map f xs ≡ blocks (λ _ x. f x ∷ []) n xs
map_blocks f n [] = refl
map_blocks f n (x ∷ xs) = ap (λ l. f x ∷ l) (map_blocks f (suc n) xs)

-- each begins with an item of a rank, and tells what it is of, where what follows begins with an item of that rank or a
-- higher one: then all of them tell what they are of, where what follows begins with one of a higher rank
module _ {X L : Type 0} (rank : L → ℕ) (k : ℕ) (f : ℕ → X → List L) (Q : X → Type 0) (opens : (n : ℕ) (x : X) → Opens rank (suc k) (f n x)) (one : (n : ℕ) (x y : X) (r s : List L) → Q x → Q y → Above rank k r → Above rank k s → f n x ++ r ≡ f n y ++ s → (x ≡ y) × (r ≡ s)) where
  after : (n : ℕ) (xs : List X) (r : List L) → Above rank (suc k) r → Above rank k (blocks f n xs ++ r)
  after n [] r h = above_lower rank k r h
  after n (x ∷ xs) r h =
      opens_above rank k ((f n x ++ blocks f (suc n) xs) ++ r) (opens_more rank (suc k) (f n x ++ blocks f (suc n) xs) r (opens_more rank (suc k) (f n x) (blocks f (suc n) xs) (opens n x)))

  none : (n : ℕ) (x : X) (xs : List X) (r s : List L) → Above rank (suc k) s → blocks f n (x ∷ xs) ++ r ≡ s → ⊥
  none n x xs r s h e =
      let begun : Opens rank (suc k) ((f n x ++ blocks f (suc n) xs) ++ r) = opens_more rank (suc k) (f n x ++ blocks f (suc n) xs) r (opens_more rank (suc k) (f n x) (blocks f (suc n) xs) (opens n x)) in
      never_both rank (suc k) s (rw (sym e) begun) h

  pub many : (n : ℕ) (xs ys : List X) (r s : List L) → All Q xs → All Q ys → Above rank (suc k) r → Above rank (suc k) s → blocks f n xs ++ r ≡ blocks f n ys ++ s → (xs ≡ ys) × (r ≡ s)
  many n [] [] r s q p hr hs e = (refl, e)
  many n [] (y ∷ ys) r s q p hr hs e = absurd (none n y ys s r hr (sym e))
  many n (x ∷ xs) [] r s q p hr hs e = absurd (none n x xs r s hs e)
  many n (x ∷ xs) (y ∷ ys) r s q p hr hs e =
      let first = one n x y (blocks f (suc n) xs ++ r) (blocks f (suc n) ys ++ s) (All-head Q x xs q) (All-head Q y ys p) (after (suc n) xs r hr) (after (suc n) ys s hs) (sym (append_assoc (f n x) (blocks f (suc n) xs) r) ∙ e ∙ append_assoc (f n y) (blocks f (suc n) ys) s) in
      let rest = many (suc n) xs ys r s (All-tail Q x xs q) (All-tail Q y ys p) hr hs first.1 in
      (λ i. first.0 i ∷ rest.0 i, rest.1)
