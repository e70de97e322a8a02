-- A count of a list's items that pass a test, and where such items stand.
use Rattle.std.proofs.Common.{◌≡◌, ℕ, zero, suc, ◌+◌, ◌<◌, ◌≤◌, Bool, true, false, List, [], ◌∷◌, length, count_by, get_or, if◌then◌else◌, refl, ⊎_elim, arith}
use Rattle.std.proofs.lemmas.Bool.{cases_Bool, cases_lt}
use Rattle.std.proofs.lemmas.List.Sums.{sum_by-cons}

unfoldable one_if : Bool → ℕ
one_if b = if b then 1 else 0

one_yes : (b : Bool) → b ≡ true → one_if b ≡ 1
unfolding one_if
one_yes true e = refl
one_yes false e = absurd (cc)

one_no : (b : Bool) → b ≡ false → one_if b ≡ 0
unfolding one_if
one_no true e = absurd (cc)
one_no false e = refl

counts : {X : Type 0} (p : X → Bool) (x : X) (xs : List X) → count_by p (x ∷ xs) ≡ one_if (p x) + count_by p xs
unfolding one_if
counts p x xs = sum_by-cons (λ y. if p y then 1 else 0) x xs

-- where none is counted, no item passes
pub count_zero-at : {X : Type 0} (p : X → Bool) (xs : List X) → count_by p xs ≡ 0 → (i : ℕ) (d : X) → i < length xs → p (get_or xs i d) ≡ false
count_zero-at p [] e i d lt = absurd (omega arith)
count_zero-at p (x ∷ xs) e i d lt =
    ⊎_elim
    (λ (h : p x ≡ true). let one = counts p x xs in let is : one_if (p x) ≡ 1 = one_yes (p x) h in absurd (omega (arith, one, is, e)))
    (λ (h : p x ≡ false). let one = counts p x xs in let is : one_if (p x) ≡ 0 = one_no (p x) h in at i lt h (λ j less. count_zero-at p xs (omega (arith, one, is, e)) j d less))
    (cases_Bool (p x))
  where
    at : (j : ℕ) → j < suc (length xs) → p x ≡ false → ((n : ℕ) → n < length xs → p (get_or xs n d) ≡ false) → p (get_or (x ∷ xs) j d) ≡ false
    at zero less h rest = h
    at (suc j) less h rest = rest j (omega arith)

-- where no item passes, none is counted
pub count_zero-from : {X : Type 0} (p : X → Bool) (xs : List X) (d : X) → ((i : ℕ) → i < length xs → p (get_or xs i d) ≡ false) → count_by p xs ≡ 0
count_zero-from p [] d h = refl
count_zero-from p (x ∷ xs) d h =
    let is : one_if (p x) ≡ 0 = one_no (p x) (h zero (omega arith)) in
    let rest = count_zero-from p xs d (λ i lt. h (suc i) (omega arith)) in
    let one = counts p x xs in
    omega (arith, is, rest, one)

-- where one is counted, an item passes
pub count_some-is : {X : Type 0} (p : X → Bool) (xs : List X) (d : X) → 0 < count_by p xs → (i : ℕ) × (i < length xs) × (p (get_or xs i d) ≡ true)
count_some-is p [] d h = absurd (omega arith)
count_some-is p (x ∷ xs) d h =
    ⊎_elim
    (λ (e : p x ≡ true). (zero, omega arith, e))
    (λ (e : p x ≡ false). let one = counts p x xs in let is : one_if (p x) ≡ 0 = one_no (p x) e in let rest = count_some-is p xs d (omega (arith, one, is, h)) in (suc rest.0, omega (arith, rest.1), rest.2))
    (cases_Bool (p x))

-- where an item passes, one is counted
pub count_some-from : {X : Type 0} (p : X → Bool) (xs : List X) (i : ℕ) (d : X) → i < length xs → p (get_or xs i d) ≡ true → 0 < count_by p xs
count_some-from p xs i d lt h = ⊎_elim (λ (e : 0 < count_by p xs). e) (λ (e : count_by p xs ≤ 0). let no = count_zero-at p xs (omega arith) i d lt in absurd (cc)) (cases_lt 0 (count_by p xs))
