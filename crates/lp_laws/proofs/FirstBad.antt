-- The first of some numbers that fails a test, one by one.
use Rattle.std.proofs.Common.{◌≡◌, ℕ, zero, suc, ◌+◌, ◌<◌, ◌≤◌, Bool, true, false, List, [], ◌∷◌, ◌++◌, Option, Some, None, if◌then◌else◌, refl, sym, ap, ap₂, ◌∙◌, ⊎_elim, arith}
use Rattle.std.proofs.lemmas.Bool.{cases_Bool, cond-true, cond-false}
use Rattle.lp_definitions.specs.Tasks.{fits, first_of}
use Rattle.lp_definitions.specs.Judgement.{first_bad}

pub none_bad : (n start : ℕ) (passes : ℕ → Bool) → n ≡ 0 → first_bad n start passes ≡ None
unfolding first_bad
none_bad zero start passes e = refl
none_bad (suc n) start passes e = absurd (omega (arith, e))

pub bad_here : (n start : ℕ) (passes : ℕ → Bool) → 0 < n → passes start ≡ false → first_bad n start passes ≡ Some start
unfolding first_bad
bad_here zero start passes lt e = absurd (omega (arith, lt))
bad_here (suc n) start passes lt e = cond-false (passes start) (first_bad n (suc start) passes) (Some start) e

one_good : (n start : ℕ) (passes : ℕ → Bool) → passes start ≡ true → first_bad (suc n) start passes ≡ first_bad n (suc start) passes
unfolding first_bad
one_good n start passes e = cond-true (passes start) (first_bad n (suc start) passes) (Some start) e

pub good_here : (n m start next : ℕ) (passes : ℕ → Bool) → n ≡ suc m → next ≡ suc start → passes start ≡ true → first_bad n start passes ≡ first_bad m next passes
good_here n m start next passes more after e =
    ap (λ k. first_bad k start passes) more ∙ one_good m start passes e ∙ ap (λ k. first_bad m k passes) (sym after)

pub all_good : (n start : ℕ) (passes : ℕ → Bool) → ((i : ℕ) → start ≤ i → i < start + n → passes i ≡ true) → first_bad n start passes ≡ None
all_good zero start passes h = none_bad 0 start passes refl
all_good (suc n) start passes h = one_good n start passes (h start (omega arith) (omega arith)) ∙ all_good n (suc start) passes (λ i low high. h i (omega (arith, low)) (omega (arith, high)))

-- it is one of them
pub bad_within : (n start : ℕ) (passes : ℕ → Bool) (bad : ℕ) → first_bad n start passes ≡ Some bad → (start ≤ bad) × (bad < start + n)
unfolding first_bad
bad_within zero start passes bad e = absurd (cc)
bad_within (suc n) start passes bad e =
    ⊎_elim
    (λ (yes : passes start ≡ true). let later = bad_within n (suc start) passes bad (sym (one_good n start passes yes) ∙ e) in (omega (arith, later.0), omega (arith, later.1)))
    (λ (no : passes start ≡ false). let same : start ≡ bad = cc (sym (bad_here (suc n) start passes (omega arith) no) ∙ e) in (omega (arith, same), omega (arith, same)))
    (cases_Bool (passes start))

-- by tests that answer alike
pub first_bad_same : (n start : ℕ) (p q : ℕ → Bool) → ((i : ℕ) → start ≤ i → i < start + n → p i ≡ q i) → first_bad n start p ≡ first_bad n start q
unfolding first_bad
first_bad_same zero start p q same = refl
first_bad_same (suc n) start p q same =
    ap₂ (λ (b : Bool) (o : Option ℕ). if b then o else Some start) (same start (omega arith) (omega arith)) (first_bad_same n (suc start) p q (λ i low high. same i (omega (arith, low)) (omega (arith, high))))

-- ---- The first of some answers

-- where the first ones have none
pub first_of_append : {A : Type 0} (xs ys : List (Option A)) → first_of xs ≡ None → first_of (xs ++ ys) ≡ first_of ys
first_of_append [] ys e = refl
first_of_append (None ∷ xs) ys e = first_of_append xs ys e
first_of_append (Some x ∷ xs) ys e = absurd (cc)

-- where the first ones have one
pub first_of_found : {A : Type 0} (xs ys : List (Option A)) (x : A) → first_of xs ≡ Some x → first_of (xs ++ ys) ≡ Some x
first_of_found [] ys x e = absurd (cc)
first_of_found (None ∷ xs) ys x e = first_of_found xs ys x e
first_of_found (Some y ∷ xs) ys x e = e

pub first_none : {A : Type 0} (o : Option A) (more : List (Option A)) → o ≡ None → first_of (o ∷ more) ≡ first_of more
first_none None more e = refl
first_none (Some x) more e = absurd (cc)

pub first_some : {A : Type 0} (o : Option A) (more : List (Option A)) (x : A) → o ≡ Some x → first_of (o ∷ more) ≡ Some x
first_some None more x e = absurd (cc)
first_some (Some y) more x e = e

pub fit_none : {A : Type 0} (b : Bool) (x : A) → b ≡ false → fits b x ≡ None
fit_none false x e = refl
fit_none true x e = absurd (cc)
