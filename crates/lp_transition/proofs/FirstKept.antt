-- Numbers of which some are passed over.
use Rattle.std.proofs.Common.{◌≡◌, ℕ, zero, suc, ◌+◌, ◌-◌, ◌<◌, ◌≤◌, Bool, true, false, ◌||◌, List, [], ◌∷◌, ◌++◌, map, Option, Some, None, is_some, nat_eq, refl, sym, ap, ap₂, ◌∙◌, ⊎_elim, arith}
use Rattle.std.proofs.lemmas.Bool.{false≢true, cases_Bool, cases_eq, or_right, eq-eqb, ne_eqb}
use Rattle.std.specs.List.{filter_map, cons_option}
use Rattle.lp_numbers.proofs.Ascents.{none_in}
use Rattle.lp_definitions.specs.Tasks.{first_of}
use Rattle.lp_tasks.specs.Passing.{passing}
use Rattle.lp_tasks.proofs.Passing.{passes, skip_one, keep_one}

-- ---- One number more

module _ (test : ℕ → Bool) (n : ℕ) (before : (t : ℕ) → test t ≡ true → t < n) where
  abbrev or_last : ℕ → Bool
  or_last t = test t || nat_eq t n

  or_false : (b : Bool) → (b || false) ≡ b
  or_false true = refl
  or_false false = refl

  out : (t : ℕ) → n ≤ t → test t ≡ false
  out t h = ⊎_elim (λ (yes : test t ≡ true). let under = before t yes in absurd (omega arith)) (λ (no : test t ≡ false). no) (cases_Bool (test t))

  past : (t : ℕ) → n < t → or_last t ≡ false
  past t h = ap₂ (λ b c. b || c) (out t (omega arith)) (ne_eqb t n (λ (e : t ≡ n). omega arith))

  -- it stands after those that pass
  last_in : (k a : ℕ) → a ≤ n → n < a + k → passes or_last a k ≡ passes test a k ++ n ∷ []
  last_in zero a low high = absurd (omega arith)
  last_in (suc k) a low high =
      ⊎_elim
      (λ (same : a ≡ n).
      let none : passes test a (suc k) ≡ [] = none_in test (suc k) a (λ t above within. out t (omega arith)) in
      keep_one or_last a k (or_right (test a) (nat_eq a n) (eq-eqb a n same))
      ∙ ap₂ (λ m ms. m ∷ ms) same (none_in or_last k (a + 1) (λ t above within. past t (omega arith)))
      ∙ ap (λ ms. ms ++ n ∷ []) (sym none))
      (λ (ne : a ≡ n → ⊥).
      let rest = last_in k (a + 1) (omega (arith, ne)) (omega arith) in
      let is : or_last a ≡ test a = ap (λ b. test a || b) (ne_eqb a n ne) ∙ or_false (test a) in
      ⊎_elim
      (λ (yes : test a ≡ true). keep_one or_last a k (is ∙ yes) ∙ ap (λ ms. a ∷ ms) rest ∙ ap (λ ms. ms ++ n ∷ []) (sym (keep_one test a k yes)))
      (λ (no : test a ≡ false). skip_one or_last a k (is ∙ no) ∙ rest ∙ ap (λ ms. ms ++ n ∷ []) (sym (skip_one test a k no)))
      (cases_Bool (test a)))
      (cases_eq a n)

  pub passing-last : (limit : ℕ) → n < limit → passing 0 limit or_last ≡ passing 0 limit test ++ n ∷ []
  unfolding passing
  passing-last limit h = last_in (limit - 0) 0 (omega arith) (omega arith)

-- ---- The first that is named

-- what is named of what a function gives
abbrev pub named : {X B : Type 0} → (X → Option B) → Option X → Option B
named m None = None
named m (Some x) = m x

module _ {X B : Type 0} (f : ℕ → Option X) (m : X → Option B) where
  abbrev first : List ℕ → Option B
  first ns = first_of (map m (filter_map f ns))

  first_none : (o : Option X) (rest : List X) → named m o ≡ None → first_of (map m (cons_option o rest)) ≡ first_of (map m rest)
  first_none None rest none = refl
  first_none (Some x) rest none = ap (λ b. first_of (b ∷ map m rest)) none

  first_some : (o : Option X) (rest : List X) (b : B) → named m o ≡ Some b → first_of (map m (cons_option o rest)) ≡ Some b
  first_some None rest b some = absurd (cc)
  first_some (Some x) rest b some = ap (λ c. first_of (c ∷ map m rest)) some

  -- a number from a first one to before another one that passes, and of which something is named
  pub record Earlier (test : ℕ → Bool) (low t : ℕ) : Type 0 where
    pub number : ℕ
    pub from : low ≤ number
    pub before : number < t
    pub passed : test number ≡ true
    pub named_of : is_some (named m (f number)) ≡ true

  -- who is passed over, and named, has one before it that isn't
  abbrev pub IsCovered : (test : ℕ → Bool) (low high : ℕ) → Type 0
  IsCovered test low high = (t : ℕ) → low ≤ t → t < high → test t ≡ false → is_some (named m (f t)) ≡ true → Earlier test low t

  -- one step, where the rest is as it has to be
  module _ (test : ℕ → Bool) (k a : ℕ) (covered : IsCovered test a (a + suc k)) (more : IsCovered test (a + 1) (a + 1 + k) → first (passes test (a + 1) k) ≡ first (passes (λ t. true) (a + 1) k)) where
    no_name : named m (f a) ≡ None → (u : ℕ) → u ≡ a → is_some (named m (f u)) ≡ true → ⊥
    no_name none u same some = false≢true (sym (ap is_some none) ∙ ap (λ v. is_some (named m (f v))) (sym same) ∙ some)

    later : named m (f a) ≡ None → IsCovered test (a + 1) (a + 1 + k)
    later none t low high out some =
        let h = covered t (omega arith) (omega arith) out some in
        let least : a ≤ h.number = h.from in
        record {
          number = h.number;
          from = ⊎_elim (λ (same : h.number ≡ a). absurd (no_name none h.number same h.named_of)) (λ (ne : h.number ≡ a → ⊥). omega (arith, ne, least)) (cases_eq h.number a);
          before = h.before;
          passed = h.passed;
          named_of = h.named_of;
        }

    first_step : (o : Option B) → named m (f a) ≡ o → first (passes test a (suc k)) ≡ first (passes (λ t. true) a (suc k))
    first_step None none =
        ⊎_elim
        (λ (yes : test a ≡ true). ap first (keep_one test a k yes) ∙ first_none (f a) (filter_map f (passes test (a + 1) k)) none)
        (λ (no : test a ≡ false). ap first (skip_one test a k no))
        (cases_Bool (test a))
        ∙ more (later none)
        ∙ sym (first_none (f a) (filter_map f (passes (λ t. true) (a + 1) k)) none)
    first_step (Some b) some =
        ⊎_elim
        (λ (yes : test a ≡ true). ap first (keep_one test a k yes) ∙ first_some (f a) (filter_map f (passes test (a + 1) k)) b some)
        (λ (no : test a ≡ false).
        let h = covered a (omega arith) (omega arith) no (ap is_some some) in
        let low : a ≤ h.number = h.from in
        let high : h.number < a = h.before in
        absurd (omega arith))
        (cases_Bool (test a))
        ∙ sym (first_some (f a) (filter_map f (passes (λ t. true) (a + 1) k)) b some)

  first_in : (test : ℕ → Bool) (k a : ℕ) → IsCovered test a (a + k) → first (passes test a k) ≡ first (passes (λ t. true) a k)
  first_in test zero a covered = refl
  first_in test (suc k) a covered = first_step test k a covered (λ more. first_in test k (a + 1) more) (named m (f a)) refl

  -- the first is the same
  pub first-kept : (test : ℕ → Bool) (limit : ℕ) → IsCovered test 0 limit → first (passing 0 limit test) ≡ first (passing 0 limit (λ t. true))
  unfolding passing
  first-kept test limit covered = first_in test (limit - 0) 0 (λ t low high. covered t low (omega arith))
