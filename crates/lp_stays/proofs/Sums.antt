-- Sums over ranges of numbers.
use Rattle.std.proofs.Common.{◌≡◌, ◌≢◌, ℕ, zero, suc, ◌+◌, ◌<◌, ◌≤◌, List, [], ◌++◌, flat_map, if◌then◌else◌, nat_eq, refl, sym, ap, ◌∙◌, subst, ⊎_elim, arith}
use Rattle.std.specs.List.{range_with_len}
use Rattle.std.proofs.lemmas.Bool.{cases_eq, eq-eqb, ne_eqb, cond-true, cond-false}
use Rattle.std.proofs.lemmas.List.Concat.{flat_map-cons}

-- f at n numbers from a on, summed up
unfoldable pub sum_from : (ℕ → ℕ) → ℕ → ℕ → ℕ
sum_from f a zero = 0
sum_from f a (suc n) = f a + sum_from f (a + 1) n

pub sum_added : (f g d : ℕ → ℕ) (a n : ℕ) → ((k : ℕ) → a ≤ k → k < a + n → g k ≡ f k + d k) → sum_from g a n ≡ sum_from f a n + sum_from d a n
unfolding sum_from
sum_added f g d a zero h = refl
sum_added f g d a (suc n) h =
    let first = h a (omega arith) (omega arith) in
    let rest = sum_added f g d (a + 1) n (λ k low high. h k (omega arith) (omega arith)) in
    omega (arith, first, rest)

pub sum_none : (d : ℕ → ℕ) (a n : ℕ) → ((k : ℕ) → a ≤ k → k < a + n → d k ≡ 0) → sum_from d a n ≡ 0
unfolding sum_from
sum_none d a zero h = refl
sum_none d a (suc n) h =
    let first = h a (omega arith) (omega arith) in
    let rest = sum_none d (a + 1) n (λ k low high. h k (omega arith) (omega arith)) in
    omega (arith, first, rest)

pub sum_one : (d : ℕ → ℕ) (at a n : ℕ) → a ≤ at → at < a + n → ((k : ℕ) → k ≢ at → d k ≡ 0) → sum_from d a n ≡ d at
unfolding sum_from
sum_one d at a zero low high h = absurd (omega arith)
sum_one d at a (suc n) low high h =
    ⊎_elim
    (λ (same : a ≡ at).
    let rest = sum_none d (a + 1) n (λ k from to. h k (λ e. omega arith)) in
    let here : d a ≡ d at = ap d same in
    omega (arith, rest, here))
    (λ (other : a ≡ at → ⊥).
    let none = h a other in
    let rest = sum_one d at (a + 1) n (omega (arith, other)) (omega arith) h in
    omega (arith, none, rest))
    (cases_eq a at)

pub sum_last : (f : ℕ → ℕ) (a n : ℕ) → sum_from f a (suc n) ≡ sum_from f a n + f (a + n)
unfolding sum_from
sum_last f a zero = let here : f a ≡ f (a + 0) = ap f (omega arith) in omega (arith, here)
sum_last f a (suc n) =
    let rest = sum_last f (a + 1) n in
    let same : f ((a + 1) + n) ≡ f (a + suc n) = ap f (omega arith) in
    omega (arith, rest, same)

-- ---- Lists over a range of pairs

module _ {A : Type 0} (weight : List A → ℕ) (none : weight [] ≡ 0) (both : (xs ys : List A) → weight (xs ++ ys) ≡ weight xs + weight ys) where
  weigh-range : (f : ℕ → List A) (a n : ℕ) → weight (flat_map f (range_with_len a n)) ≡ sum_from (λ k. weight (f k)) a n
  unfolding sum_from
  weigh-range f a zero = none
  weigh-range f a (suc n) =
      let first = ap weight (flat_map-cons f a (range_with_len (a + 1) n)) ∙ both (f a) (flat_map f (range_with_len (a + 1) n)) in
      let rest = weigh-range f (a + 1) n in
      first ∙ ap (λ s. weight (f a) + s) rest

  module _ (n m : ℕ) where
    abbrev row : (ℕ → ℕ → List A) → ℕ → List A
    row f t = flat_map (λ p. f t p) (range_with_len 1 n)

    abbrev all_rows : (ℕ → ℕ → List A) → List A
    all_rows f = flat_map (row f) (range_with_len 1 m)

    abbrev row_more : (ℕ → ℕ) → ℕ → ℕ → ℕ
    row_more d at t = if nat_eq t at then sum_from d 1 n else 0

    module _ (f g : ℕ → ℕ → List A) where
      same_row : (t : ℕ) → ((p : ℕ) → 1 ≤ p → p < 1 + n → weight (g t p) ≡ weight (f t p) + 0) → weight (row g t) ≡ weight (row f t) + 0
      same_row t h =
          let a = weigh-range (f t) 1 n in
          let b = weigh-range (g t) 1 n in
          let c = sum_added (λ p. weight (f t p)) (λ p. weight (g t p)) (λ p. 0) 1 n h in
          let d = sum_none (λ p. 0) 1 n (λ k low high. refl) in
          omega (arith, a, b, c, d)

      more_row : (d : ℕ → ℕ) (t : ℕ) → ((p : ℕ) → 1 ≤ p → p < 1 + n → weight (g t p) ≡ weight (f t p) + d p) → weight (row g t) ≡ weight (row f t) + sum_from d 1 n
      more_row d t h =
          let a = weigh-range (f t) 1 n in
          let b = weigh-range (g t) 1 n in
          let c = sum_added (λ p. weight (f t p)) (λ p. weight (g t p)) d 1 n h in
          omega (arith, a, b, c)

      -- where no row changes in weight
      pub rows-still : ((t p : ℕ) → 1 ≤ t → t < 1 + m → 1 ≤ p → p < 1 + n → weight (g t p) ≡ weight (f t p) + 0) → weight (all_rows g) ≡ weight (all_rows f)
      rows-still h =
          let a = weigh-range (row f) 1 m in
          let b = weigh-range (row g) 1 m in
          let c = sum_added (λ t. weight (row f t)) (λ t. weight (row g t)) (λ t. 0) 1 m (λ t low high. same_row t (λ p from to. h t p low high from to)) in
          let d = sum_none (λ t. 0) 1 m (λ t low high. refl) in
          omega (arith, a, b, c, d)

      -- where one row alone changes in weight
      pub rows-one :
          (d : ℕ → ℕ) (at : ℕ) → 1 ≤ at → at < 1 + m
          → ((t p : ℕ) → t ≢ at → 1 ≤ t → t < 1 + m → 1 ≤ p → p < 1 + n → weight (g t p) ≡ weight (f t p) + 0)
          → ((p : ℕ) → 1 ≤ p → p < 1 + n → weight (g at p) ≡ weight (f at p) + d p)
          → weight (all_rows g) ≡ weight (all_rows f) + sum_from d 1 n
      rows-one d at low high others here =
          let a = weigh-range (row f) 1 m in
          let b = weigh-range (row g) 1 m in
          let c = sum_added (λ t. weight (row f t)) (λ t. weight (row g t)) (row_more d at) 1 m (λ t from to. each t from to) in
          let e = sum_one (row_more d at) at 1 m low high (λ t other. cond-false _ _ _ (ne_eqb t at other)) in
          let i : row_more d at at ≡ sum_from d 1 n = cond-true _ _ _ (eq-eqb at at refl) in
          omega (arith, a, b, c, e, i)
        where
          each : (t : ℕ) → 1 ≤ t → t < 1 + m → weight (row g t) ≡ weight (row f t) + row_more d at t
          each t from to =
              ⊎_elim
              (λ (same : t ≡ at).
              let i : row_more d at t ≡ sum_from d 1 n = cond-true _ _ _ (eq-eqb t at same) in
              subst (λ u. weight (row g u) ≡ weight (row f u) + sum_from d 1 n) (sym same) (more_row d at here) ∙ ap (λ s. weight (row f t) + s) (sym i))
              (λ (other : t ≡ at → ⊥).
              let i : row_more d at t ≡ 0 = cond-false _ _ _ (ne_eqb t at other) in
              same_row t (λ p low' high'. others t p other from to low' high') ∙ ap (λ s. weight (row f t) + s) (sym i))
              (cases_eq t at)
