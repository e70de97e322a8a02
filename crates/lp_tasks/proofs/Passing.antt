-- Numbers that pass a test, in increasing order.
use Rattle.std.proofs.Common.{◌≡◌, ℕ, zero, suc, ◌+◌, ◌-◌, ◌<◌, ◌≤◌, Bool, true, false, ◌||◌, List, [], ◌∷◌, nat_eq, refl, sym, ap, ◌∙◌, ⊎_elim, arith}
use Rattle.std.proofs.lemmas.Bool.{cond-true, cond-false, cases_Bool, cases_eq, or_cases, or_left, or_right, eq-eqb, ne_eqb}
use Rattle.std.specs.List.{filter, list_any, range_with_len}
use Rattle.lp_numbers.proofs.Ascents.{none_in, skip_to}
use Rattle.lp_tasks.specs.Passing.{passing}

-- ---- By the count of numbers

abbrev pub passes : (ℕ → Bool) → ℕ → ℕ → List ℕ
passes test a k = filter test (range_with_len a k)

pub skip_one : (test : ℕ → Bool) (a k : ℕ) → test a ≡ false → passes test a (suc k) ≡ passes test (a + 1) k
skip_one test a k e = cond-false (test a) (a ∷ passes test (a + 1) k) (passes test (a + 1) k) e

pub keep_one : (test : ℕ → Bool) (a k : ℕ) → test a ≡ true → passes test a (suc k) ≡ a ∷ passes test (a + 1) k
keep_one test a k e = cond-true (test a) (a ∷ passes test (a + 1) k) (passes test (a + 1) k) e

-- ---- Below a limit

-- where no number passes, the list is empty
pub passing-none : (first limit : ℕ) (test : ℕ → Bool) → ((n : ℕ) → first ≤ n → n < limit → test n ≡ false) → passing first limit test ≡ []
unfolding passing
passing-none first limit test h = none_in test (limit - first) first (λ n low high. h n low (omega arith))

pub passing-skip : (first n limit : ℕ) (test : ℕ → Bool) → first ≤ n → n ≤ limit → ((k : ℕ) → first ≤ k → k < n → test k ≡ false) → passing first limit test ≡ passing n limit test
unfolding passing
passing-skip first n limit test low high h = skip_to test (n - first) (limit - n) first (limit - first) n (omega arith) (omega arith) h

any_below : (test : ℕ → Bool) (k a g : ℕ) → g < a → list_any (nat_eq g) (passes test a k) ≡ false
any_below test zero a g low = refl
any_below test (suc k) a g low =
    let later = any_below test k (a + 1) g (omega arith) in
    ⊎_elim
    (λ (yes : test a ≡ true).
    ap (list_any (nat_eq g)) (keep_one test a k yes) ∙ ap (λ b. b || list_any (nat_eq g) (passes test (a + 1) k)) (ne_eqb g a (λ (e : g ≡ a). omega arith)) ∙ later)
    (λ (out : test a ≡ false). ap (list_any (nat_eq g)) (skip_one test a k out) ∙ later)
    (cases_Bool (test a))

any_passes : (test : ℕ → Bool) (k a g : ℕ) → a ≤ g → g < a + k → list_any (nat_eq g) (passes test a k) ≡ test g
any_passes test zero a g low high = absurd (omega arith)
any_passes test (suc k) a g low high =
    ⊎_elim
    (λ (same : g ≡ a).
    ⊎_elim
    (λ (yes : test a ≡ true).
    ap (list_any (nat_eq g)) (keep_one test a k yes) ∙ or_left (nat_eq g a) (list_any (nat_eq g) (passes test (a + 1) k)) (eq-eqb g a same) ∙ sym (ap test same ∙ yes))
    (λ (out : test a ≡ false).
    ap (list_any (nat_eq g)) (skip_one test a k out) ∙ any_below test k (a + 1) g (omega arith) ∙ sym (ap test same ∙ out))
    (cases_Bool (test a)))
    (λ (ne : g ≡ a → ⊥).
    let later = any_passes test k (a + 1) g (omega (arith, ne)) (omega arith) in
    ⊎_elim
    (λ (yes : test a ≡ true).
    ap (list_any (nat_eq g)) (keep_one test a k yes) ∙ ap (λ b. b || list_any (nat_eq g) (passes test (a + 1) k)) (ne_eqb g a ne) ∙ later)
    (λ (out : test a ≡ false). ap (list_any (nat_eq g)) (skip_one test a k out) ∙ later)
    (cases_Bool (test a)))
    (cases_eq g a)

-- a number below the limit is listed where it passes
pub passing-any : (limit : ℕ) (test : ℕ → Bool) (g : ℕ) → g < limit → list_any (nat_eq g) (passing 0 limit test) ≡ test g
unfolding passing
passing-any limit test g h = any_passes test (limit - 0) 0 g (omega arith) (omega arith)

-- ---- Some number that passes

-- a number of the list that passes another test
pub record Both (limit : ℕ) (test p : ℕ → Bool) : Type 0 where
  pub number : ℕ
  pub below : number < limit
  pub member : test number ≡ true
  pub passed : p number ≡ true

both_is : (test p : ℕ → Bool) (k a limit : ℕ) → a + k ≤ limit → list_any p (passes test a k) ≡ true → Both limit test p
both_is test p zero a limit h t = absurd (cc)
both_is test p (suc k) a limit h t =
    ⊎_elim
    (λ (yes : test a ≡ true).
    ⊎_elim
    (λ (here : p a ≡ true). record { number = a; below = omega arith; member = yes; passed = here })
    (λ (later : list_any p (passes test (a + 1) k) ≡ true). both_is test p k (a + 1) limit (omega arith) later)
    (or_cases (p a) (list_any p (passes test (a + 1) k)) (sym (ap (list_any p) (keep_one test a k yes)) ∙ t)))
    (λ (out : test a ≡ false). both_is test p k (a + 1) limit (omega arith) (sym (ap (list_any p) (skip_one test a k out)) ∙ t))
    (cases_Bool (test a))

both_from : (test p : ℕ → Bool) (k a n : ℕ) → a ≤ n → n < a + k → test n ≡ true → p n ≡ true → list_any p (passes test a k) ≡ true
both_from test p zero a n low high e t = absurd (omega arith)
both_from test p (suc k) a n low high e t =
    ⊎_elim
    (λ (same : n ≡ a).
    ap (list_any p) (keep_one test a k (ap test (sym same) ∙ e)) ∙ or_left (p a) (list_any p (passes test (a + 1) k)) (ap p (sym same) ∙ t))
    (λ (ne : n ≡ a → ⊥).
    let later = both_from test p k (a + 1) n (omega (arith, ne)) (omega arith) e t in
    ⊎_elim
    (λ (yes : test a ≡ true). ap (list_any p) (keep_one test a k yes) ∙ or_right (p a) (list_any p (passes test (a + 1) k)) later)
    (λ (out : test a ≡ false). ap (list_any p) (skip_one test a k out) ∙ later)
    (cases_Bool (test a)))
    (cases_eq n a)

pub passing-both_is : (limit : ℕ) (test p : ℕ → Bool) → list_any p (passing 0 limit test) ≡ true → Both limit test p
unfolding passing
passing-both_is limit test p t = both_is test p (limit - 0) 0 limit (omega arith) t

pub passing-both_from : (limit : ℕ) (test p : ℕ → Bool) → Both limit test p → list_any p (passing 0 limit test) ≡ true
unfolding passing
passing-both_from limit test p b = let high = b.below in both_from test p (limit - 0) 0 b.number (omega arith) (omega arith) b.member b.passed
