-- How many of a list are a key's: a number's, or nobody's.
use Rattle.std.proofs.Common.{◌≡◌, ◌⊎◌, ℕ, zero, suc, ◌+◌, ◌<◌, ◌≤◌, Bool, true, false, cond, List, [], ◌∷◌, length, map, Option, Some, None, refl, sym, ap, ◌∙◌, ⊎_elim, inl, inr, arith}
use Rattle.std.specs.Prelude.{filter, nat_eq}
use Rattle.std.proofs.lemmas.Bool.{eqb-true, eq-eqb}

-- two keys are the same
abbrev pub same_key : Option ℕ → Option ℕ → Bool
same_key (Some t) (Some u) = nat_eq t u
same_key None None = true
same_key _ _ = false

pub key_is : (k j : Option ℕ) → same_key k j ≡ true → k ≡ j
key_is (Some t) (Some u) e = ap Some (eqb-true t u e)
key_is (Some t) None e = cc
key_is None (Some u) e = cc
key_is None None e = refl

key_self : (k : Option ℕ) → same_key k k ≡ true
key_self (Some t) = eq-eqb t t refl
key_self None = refl

-- one, if it is so
abbrev pub bit : Bool → ℕ
bit true = 1
bit false = 0

-- how many of these are the key
abbrev pub count : Option ℕ → List (Option ℕ) → ℕ
count k [] = 0
count k (j ∷ js) = bit (same_key k j) + count k js

-- these without the first that is the key
abbrev fewer : Option ℕ → List (Option ℕ) → List (Option ℕ)
fewer k [] = []
fewer k (j ∷ js) = cond (same_key k j) js (j ∷ fewer k js)

one_fewer : (k : Option ℕ) (js : List (Option ℕ)) → 0 < count k js → length js ≡ suc (length (fewer k js))
one_fewer k [] there = absurd (omega (arith, there))
one_fewer k (j ∷ js) there = at (same_key k j) (λ t. one_fewer k js t) there
  where
    at : (b : Bool) → (0 < count k js → length js ≡ suc (length (fewer k js))) → 0 < bit b + count k js → suc (length js) ≡ suc (length (cond b js (j ∷ fewer k js)))
    at true more t = refl
    at false more t = ap suc (more (omega (arith, t)))

others_stay : (k i : Option ℕ) (js : List (Option ℕ)) → 0 < count k js → count i js ≡ bit (same_key i k) + count i (fewer k js)
others_stay k i [] there = absurd (omega (arith, there))
others_stay k i (j ∷ js) there = at (same_key k j) refl (λ t. others_stay k i js t) there
  where
    at : (b : Bool) → same_key k j ≡ b → (0 < count k js → count i js ≡ bit (same_key i k) + count i (fewer k js)) → 0 < bit b + count k js
        → bit (same_key i j) + count i js ≡ bit (same_key i k) + count i (cond b js (j ∷ fewer k js))
    at true e more t = ap (λ (l : Option ℕ). bit (same_key i l) + count i js) (sym (key_is k j e))
    at false e more t = let m = more (omega (arith, t)) in omega (arith, m)

-- of who has as many of each key at least there are as many at least
pub no_more : (ds es : List (Option ℕ)) → ((k : Option ℕ) → count k ds ≤ count k es) → length ds ≤ length es
no_more [] es few = omega arith
no_more (d ∷ ds) es few =
    let own : bit (same_key d d) ≡ 1 = ap (λ (b : Bool). bit b) (key_self d) in
    let first : bit (same_key d d) + count d ds ≤ count d es = few d in
    let there : 0 < count d es = omega (arith, own, first) in
    let less = one_fewer d es there in
    let rest : length ds ≤ length (fewer d es) = no_more ds (fewer d es) (λ k.
    let a = others_stay d k es there in
    let b : bit (same_key k d) + count k ds ≤ count k es = few k in
    omega (arith, a, b)) in
    omega (arith, less, rest)

at_most_or_more : (a b : ℕ) → (a ≤ b) ⊎ (b < a)
at_most_or_more zero b = inl (omega arith)
at_most_or_more (suc a) zero = inr (omega arith)
at_most_or_more (suc a) (suc b) = ⊎_elim (λ (l : a ≤ b). inl (omega (arith, l))) (λ (m : b < a). inr (omega (arith, m))) (at_most_or_more a b)

-- and if there are no more of them, there are as many of each key
pub none_left : (ds es : List (Option ℕ)) → ((k : Option ℕ) → count k ds ≤ count k es) → length es ≤ length ds → (k : Option ℕ) → count k es ≤ count k ds
none_left ds es few all k =
    ⊎_elim
    (λ (is : count k es ≤ count k ds). is)
    (λ (more : count k ds < count k es).
    let long = no_more (k ∷ ds) es (λ i. at i more (same_key i k) refl) in
    absurd (omega (arith, long, all)))
    (at_most_or_more (count k es) (count k ds))
  where
    at : (i : Option ℕ) → count k ds < count k es → (b : Bool) → same_key i k ≡ b → bit (same_key i k) + count i ds ≤ count i es
    at i more true e =
        let one : bit (same_key i k) ≡ 1 = ap (λ (b : Bool). bit b) e in
        let a : count i ds ≡ count k ds = ap (λ (l : Option ℕ). count l ds) (key_is i k e) in
        let b : count i es ≡ count k es = ap (λ (l : Option ℕ). count l es) (key_is i k e) in
        omega (arith, one, a, b, more)
    at i more false e =
        let none : bit (same_key i k) ≡ 0 = ap (λ (b : Bool). bit b) e in
        let a = few i in
        omega (arith, none, a)

-- as many pass a test as there are of the key that it asks for
pub counted : {A : Type 0} (key : A → Option ℕ) (test : A → Bool) (k : Option ℕ) → ((x : A) → test x ≡ same_key k (key x)) → (xs : List A) → length (filter test xs) ≡ count k (map key xs)
counted {A} key test k is [] = refl
counted {A} key test k is (x ∷ xs) = at (test x) (counted key test k is xs) ∙ ap (λ (b : Bool). bit b + count k (map key xs)) (is x)
  where
    at : (b : Bool) → length (filter test xs) ≡ count k (map key xs) → length (cond b (x ∷ filter test xs) (filter test xs)) ≡ bit b + count k (map key xs)
    at true rest = let r : length (filter test xs) ≡ count k (map key xs) = rest in omega (arith, r)
    at false rest = let r : length (filter test xs) ≡ count k (map key xs) = rest in omega (arith, r)
