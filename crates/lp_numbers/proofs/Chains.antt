-- Lists that tables lead through.
use Rattle.std.proofs.Common.{◌≡◌, ◌≢◌, ℕ, zero, suc, ◌<◌, ◌≤◌, Bool, true, false, not, ◌&&◌, ◌||◌, if◌then◌else◌, nat_eq, ◌⊎◌, inl, inr, List, [], ◌∷◌, length, get_or, refl, sym, ap, ◌∙◌, subst, arith}
use Rattle.std.specs.List.{IsDistinct, AllByRecursion}
use Rattle.std.proofs.lemmas.Bool.{cases_eq, or_cases, or_left, or_right, or_parts, or_from, and_right, eqb-true, eq-eqb, ne_eqb, cond-true, cond-false}
use Rattle.std.proofs.lemmas.Map.Steps.{length-le_from_distinct_below}
use Rattle.lp_numbers.specs.inside.Links.{among, walk, list_from, IsChain}

-- ---- What is in a list

-- a number that is in a list isn't one that is not
pub differs : (m n : ℕ) (list : List ℕ) → among m list ≡ true → among n list ≡ false → m ≢ n
differs m n list is isnt e = let both = subst (λ k. among k list ≡ true) e is in absurd (cc)

-- the first number is in its list
pub among_first : (n : ℕ) (rest : List ℕ) → among n (n ∷ rest) ≡ true
among_first n rest = or_left (nat_eq n n) (among n rest) (eq-eqb n n refl)

-- a number in the rest is in the list
pub among_rest : (m n : ℕ) (rest : List ℕ) → among m rest ≡ true → among m (n ∷ rest) ≡ true
among_rest m n rest h = or_right (nat_eq m n) (among m rest) h

-- a number in a list is the first or in the rest
pub among_cases : (m n : ℕ) (rest : List ℕ) → among m (n ∷ rest) ≡ true → (m ≡ n) ⊎ (among m rest ≡ true)
among_cases m n rest h = elim (or_cases (nat_eq m n) (among m rest) h) [ inl e ↦ inl (eqb-true m n e) | inr r ↦ inr r ]

-- what is in the rest is in the list
wider : (k at : ℕ) (rest : List ℕ) → (at ≡ 0) ⊎ (among at rest ≡ true) → (at ≡ 0) ⊎ (among at (k ∷ rest) ≡ true)
wider k at rest (inl none) = inl none
wider k at rest (inr r) = inr (among_rest at k rest r)

before_wider : (k back at n : ℕ) (rest : List ℕ) → ((back ≡ k) × (at ≡ n)) ⊎ (among back rest ≡ true) → among back (k ∷ rest) ≡ true
before_wider k back at n rest (inl there) = or_left (nat_eq back k) (among back rest) (eq-eqb back k there.0)
before_wider k back at n rest (inr r) = among_rest back k rest r

-- ---- What a chain's numbers are

module _ (next before : List ℕ) where
  -- a chain's numbers aren't 0
  pub chain-positive : (list : List ℕ) (back at n : ℕ) → IsChain next before back at list → among n list ≡ true → 0 < n
  chain-positive [] back at n chain h = absurd (cc)
  chain-positive (k ∷ rest) back at n chain h = elim (among_cases n k rest h) [
    | inl e ↦ subst (λ m. 0 < m) (sym e) chain.1
    | inr r ↦ chain-positive rest k (get_or next k 0) n chain.5 r
  ]

  -- a chain's numbers are below 65,536
  pub chain-below : (list : List ℕ) (back at n : ℕ) → IsChain next before back at list → among n list ≡ true → n < 65536
  chain-below [] back at n chain h = absurd (cc)
  chain-below (k ∷ rest) back at n chain h = elim (among_cases n k rest h) [
    | inl e ↦ subst (λ m. m < 65536) (sym e) chain.2
    | inr r ↦ chain-below rest k (get_or next k 0) n chain.5 r
  ]

  -- a chain begins in its list, or there is none
  pub chain-first : (list : List ℕ) (back at : ℕ) → IsChain next before back at list → (at ≡ 0) ⊎ (among at list ≡ true)
  chain-first [] back at chain = inl chain
  chain-first (n ∷ rest) back at chain = inr (or_left (nat_eq at n) (among at rest) (eq-eqb at n chain.0))

  -- the number after one of a chain is in the chain, or there is none
  pub chain-next : (list : List ℕ) (back at n : ℕ) → IsChain next before back at list → among n list ≡ true → (get_or next n 0 ≡ 0) ⊎ (among (get_or next n 0) list ≡ true)
  chain-next [] back at n chain h = absurd (cc)
  chain-next (k ∷ rest) back at n chain h = elim (among_cases n k rest h) [
    | inl e ↦ subst (λ m. (get_or next m 0 ≡ 0) ⊎ (among (get_or next m 0) (k ∷ rest) ≡ true)) (sym e) (wider k (get_or next k 0) rest (chain-first rest k (get_or next k 0) chain.5))
    | inr r ↦ wider k (get_or next n 0) rest (chain-next rest k (get_or next k 0) n chain.5 r)
  ]

  -- the number before one of a chain is in the chain, or the one is the first
  pub chain-before : (list : List ℕ) (back at n : ℕ) → IsChain next before back at list → among n list ≡ true → ((get_or before n 0 ≡ back) × (at ≡ n)) ⊎ (among (get_or before n 0) list ≡ true)
  chain-before [] back at n chain h = absurd (cc)
  chain-before (k ∷ rest) back at n chain h = elim (among_cases n k rest h) [
    | inl e ↦ inl (ap (λ m. get_or before m 0) e ∙ chain.3, chain.0 ∙ sym e)
    | inr r ↦ inr (before_wider k (get_or before n 0) (get_or next k 0) n rest (chain-before rest k (get_or next k 0) n chain.5 r))
  ]

  -- where a chain begins, it leads back to what it began after
  pub chain-back : (list : List ℕ) (back at n : ℕ) → IsChain next before back at list → at ≡ n → among n list ≡ true → get_or before n 0 ≡ back
  chain-back [] back at n chain e h = absurd (cc)
  chain-back (k ∷ rest) back at n chain e h = ap (λ m. get_or before m 0) (sym e ∙ chain.0) ∙ chain.3

  -- ---- A chain is as long as its list

  apart-all : (n : ℕ) (rest : List ℕ) → among n rest ≡ false → AllByRecursion (λ m. nat_eq n m ≡ false) rest
  apart-all n [] h = tt
  apart-all n (m ∷ rest) h = let parts = or_parts (nat_eq n m) (among n rest) h in (parts.0, apart-all n rest parts.1)

  chain-distinct : (list : List ℕ) (back at : ℕ) → IsChain next before back at list → IsDistinct nat_eq list
  unfolding IsDistinct
  chain-distinct [] back at chain = tt
  chain-distinct (n ∷ rest) back at chain = (apart-all n rest chain.4, chain-distinct rest n (get_or next n 0) chain.5)

  -- a chain has 65,536 numbers at most
  pub chain-fits : (list : List ℕ) (back at : ℕ) → IsChain next before back at list → length list ≤ 65536
  chain-fits list back at chain = length-le_from_distinct_below list 65536 (chain-distinct list back at chain) (λ n h. chain-below list back at n chain h)

  walk-chain : (count : ℕ) (list : List ℕ) (back at : ℕ) → IsChain next before back at list → length list ≤ count → walk next count at ≡ list
  unfolding walk
  walk-chain zero [] back at chain h = refl
  walk-chain zero (n ∷ rest) back at chain h = absurd (omega arith)
  walk-chain (suc count) [] back at chain h = cond-true (nat_eq at 0) [] (at ∷ walk next count (get_or next at 0)) (eq-eqb at 0 chain)
  walk-chain (suc count) (n ∷ rest) back at chain h =
      let some : at ≢ 0 = λ (e : at ≡ 0). absurd (omega (arith, e, chain.0, chain.1)) in
      cond-false (nat_eq at 0) [] (at ∷ walk next count (get_or next at 0)) (ne_eqb at 0 some)
      ∙ ap (λ m. m ∷ walk next count (get_or next m 0)) chain.0
      ∙ ap (λ l. n ∷ l) (walk-chain count rest n (get_or next n 0) chain.5 (omega arith))

  -- the walk along a chain is its list
  pub list_from-chain : (list : List ℕ) (back at : ℕ) → IsChain next before back at list → list_from next at ≡ list
  list_from-chain list back at chain = walk-chain 65536 list back at chain (chain-fits list back at chain)

-- ---- Chains by other tables

module _ (next before next_new before_new : List ℕ) where
  -- tables that agree at a chain's numbers
  pub chain-same : (list : List ℕ) (back at : ℕ) → ((m : ℕ) → among m list ≡ true → get_or next_new m 0 ≡ get_or next m 0) → ((m : ℕ) → among m list ≡ true → get_or before_new m 0 ≡ get_or before m 0) → IsChain next before back at list → IsChain next_new before_new back at list
  chain-same [] back at nexts befores chain = chain
  chain-same (n ∷ rest) back at nexts befores chain =
      let onward = chain-same rest n (get_or next n 0) (λ m h. nexts m (among_rest m n rest h)) (λ m h. befores m (among_rest m n rest h)) chain.5 in
      (chain.0, chain.1, chain.2, befores n (among_first n rest) ∙ chain.3, chain.4, subst (λ a. IsChain next_new before_new n a rest) (sym (nexts n (among_first n rest))) onward)

  -- tables that agree at a chain's numbers, but lead back from its first one to another
  pub chain-led : (list : List ℕ) (back back_new at : ℕ) → ((m : ℕ) → among m list ≡ true → get_or next_new m 0 ≡ get_or next m 0) → ((m : ℕ) → among m list ≡ true → m ≢ at → get_or before_new m 0 ≡ get_or before m 0) → get_or before_new at 0 ≡ back_new → IsChain next before back at list → IsChain next_new before_new back_new at list
  chain-led [] back back_new at nexts befores led chain = chain
  chain-led (n ∷ rest) back back_new at nexts befores led chain =
      let onward = chain-same rest n (get_or next n 0) (λ m h. nexts m (among_rest m n rest h)) (λ m h. befores m (among_rest m n rest h) (λ (e : m ≡ at). differs m n rest h chain.4 (e ∙ chain.0))) chain.5 in
      (chain.0, chain.1, chain.2, subst (λ a. get_or before_new a 0 ≡ back_new) chain.0 led, chain.4, subst (λ a. IsChain next_new before_new n a rest) (sym (nexts n (among_first n rest))) onward)

-- ---- A list without one of its numbers

abbrev pub without : ℕ → List ℕ → List ℕ
without n [] = []
without n (k ∷ rest) = if nat_eq n k then rest else k ∷ without n rest

without_first : (n k : ℕ) (rest : List ℕ) → n ≡ k → without n (k ∷ rest) ≡ rest
without_first n k rest e = cond-true (nat_eq n k) rest (k ∷ without n rest) (eq-eqb n k e)

without_later : (n k : ℕ) (rest : List ℕ) → n ≢ k → without n (k ∷ rest) ≡ k ∷ without n rest
without_later n k rest ne = cond-false (nat_eq n k) rest (k ∷ without n rest) (ne_eqb n k ne)

-- what is not in a list isn't in it without a number
among-less : (m n : ℕ) (list : List ℕ) → among m list ≡ false → among m (without n list) ≡ false
among-less m n [] h = h
among-less m n (k ∷ rest) h =
    let parts = or_parts (nat_eq m k) (among m rest) h in
    elim (cases_eq n k) [
      | inl e ↦ ap (among m) (without_first n k rest e) ∙ parts.1
      | inr ne ↦ ap (among m) (without_later n k rest ne) ∙ or_from (nat_eq m k) (among m (without n rest)) parts.0 (among-less m n rest parts.1)
    ]

same_or_less : (m n k : ℕ) (rest : List ℕ) → n ≡ k → among n rest ≡ false → among m rest ≡ ((nat_eq m k || among m rest) && not (nat_eq m n))
same_or_less m n k rest e apart = elim (cases_eq m n) [
  | inl same ↦
      let here : among m rest ≡ false = ap (λ i. among i rest) same ∙ apart in
      here ∙ sym (and_right (nat_eq m k || among m rest) (not (nat_eq m n)) (ap not (eq-eqb m n same)))
  | inr ne ↦
      let other : nat_eq m k ≡ false = ne_eqb m k (λ (f : m ≡ k). ne (f ∙ sym e)) in
      let apart : nat_eq m n ≡ false = ne_eqb m n ne in
      by (nat_eq m k) (nat_eq m n) (among m rest) other apart
]
  where
    by : (a b c : Bool) → a ≡ false → b ≡ false → c ≡ ((a || c) && not b)
    by true b c p q = absurd (cc)
    by false true c p q = absurd (cc)
    by false false true p q = refl
    by false false false p q = refl

more_or_less : (m n k : ℕ) (less rest : Bool) → n ≢ k → less ≡ (rest && not (nat_eq m n)) → (nat_eq m k || less) ≡ ((nat_eq m k || rest) && not (nat_eq m n))
more_or_less m n k less rest ne e = elim (cases_eq m k) [
  | inl same ↦
      let other : nat_eq m n ≡ false = ne_eqb m n (λ (f : m ≡ n). ne (sym f ∙ same)) in
      let is : nat_eq m k ≡ true = eq-eqb m k same in
      yes_both (nat_eq m k) (nat_eq m n) less rest is other
  | inr differ ↦
      let isnt : nat_eq m k ≡ false = ne_eqb m k differ in
      no_first (nat_eq m k) less rest (not (nat_eq m n)) isnt e
]
  where
    yes_both : (a b less rest : Bool) → a ≡ true → b ≡ false → (a || less) ≡ ((a || rest) && not b)
    yes_both true false less rest p q = refl
    yes_both true true less rest p q = absurd (cc)
    yes_both false b less rest p q = absurd (cc)

    no_first : (a less rest c : Bool) → a ≡ false → less ≡ (rest && c) → (a || less) ≡ ((a || rest) && c)
    no_first true less rest c p q = absurd (cc)
    no_first false less rest c p q = q

-- what is in a chain's list without a number
pub among-without : (next before : List ℕ) (m n : ℕ) (list : List ℕ) (back at : ℕ) → IsChain next before back at list → among m (without n list) ≡ (among m list && not (nat_eq m n))
among-without next before m n [] back at chain = refl
among-without next before m n (k ∷ rest) back at chain = elim (cases_eq n k) [
  | inl e ↦ ap (among m) (without_first n k rest e) ∙ same_or_less m n k rest e (ap (λ i. among i rest) e ∙ chain.4)
  | inr ne ↦ ap (among m) (without_later n k rest ne) ∙ more_or_less m n k (among m (without n rest)) (among m rest) ne (among-without next before m n rest k (get_or next k 0) chain.5)
]

-- ---- A chain from which a number is taken out

-- where a chain goes on to, once a number is taken out
abbrev pub past : List ℕ → ℕ → ℕ → ℕ
past next n at = if nat_eq at n then get_or next n 0 else at

module _ (next before next_new before_new : List ℕ) (n : ℕ) (nexts : (m : ℕ) → m ≢ get_or before n 0 → get_or next_new m 0 ≡ get_or next m 0) (befores : (m : ℕ) → m ≢ get_or next n 0 → get_or before_new m 0 ≡ get_or before m 0) (led : get_or before_new (get_or next n 0) 0 ≡ get_or before n 0) (leads : 0 < get_or before n 0 → get_or next_new (get_or before n 0) 0 ≡ get_or next n 0) where
  -- the number is the first
  taken_first : (k : ℕ) (rest : List ℕ) (back at : ℕ) → n ≡ k → IsChain next before back at (k ∷ rest) → among back (k ∷ rest) ≡ false → IsChain next_new before_new back (past next n at) (without n (k ∷ rest))
  taken_first k rest back at e chain apart =
      let here : get_or before n 0 ≡ back = ap (λ m. get_or before m 0) e ∙ chain.3 in
      let rest_chain : IsChain next before k (get_or next n 0) rest = subst (λ m. IsChain next before k (get_or next m 0) rest) (sym e) chain.5 in
      let onward = chain-led next before next_new before_new rest k back (get_or next n 0) (λ m h. nexts m (λ (f : m ≡ get_or before n 0). differs m back (k ∷ rest) (among_rest m k rest h) apart (f ∙ here))) (λ m h ne. befores m ne) (led ∙ here) rest_chain in
      let to : past next n at ≡ get_or next n 0 = cond-true (nat_eq at n) (get_or next n 0) at (eq-eqb at n (chain.0 ∙ sym e)) in
      subst (λ a. IsChain next_new before_new back a (without n (k ∷ rest))) (sym to) (subst (λ l. IsChain next_new before_new back (get_or next n 0) l) (sym (without_first n k rest e)) onward)

  -- the number before the one that is taken out leads past it, and each other on to the next
  onward_past : (k : ℕ) (rest : List ℕ) → 0 < k → among k rest ≡ false → IsChain next before k (get_or next k 0) rest → among n rest ≡ true → get_or next_new k 0 ≡ past next n (get_or next k 0)
  onward_past k rest positive apart chain h = elim (cases_eq (get_or next k 0) n) [
    | inl e ↦
        let here = chain-back next before rest k (get_or next k 0) n chain e h in
        let some : 0 < get_or before n 0 = subst (λ m. 0 < m) (sym here) positive in
        ap (λ m. get_or next_new m 0) (sym here) ∙ leads some ∙ sym (cond-true (nat_eq (get_or next k 0) n) (get_or next n 0) (get_or next k 0) (eq-eqb (get_or next k 0) n e))
    | inr ne ↦
        let other : k ≢ get_or before n 0 = λ (f : k ≡ get_or before n 0). elim (chain-before next before rest k (get_or next k 0) n chain h) [
          | inl there ↦ ne there.1
          | inr inside ↦ differs (get_or before n 0) k rest inside apart (sym f)
        ] in
        nexts k other ∙ sym (cond-false (nat_eq (get_or next k 0) n) (get_or next n 0) (get_or next k 0) (ne_eqb (get_or next k 0) n ne))
  ]

  -- the number that comes after the one that is taken out isn't before it
  not_after : (k : ℕ) (rest : List ℕ) → 0 < k → among k rest ≡ false → IsChain next before k (get_or next k 0) rest → among n rest ≡ true → k ≢ get_or next n 0
  not_after k rest positive apart chain h e = elim (chain-next next before rest k (get_or next k 0) n chain h) [
    | inl none ↦ absurd (omega (arith, e, none, positive))
    | inr inside ↦ differs (get_or next n 0) k rest inside apart (sym e)
  ]

  -- a chain without one of its numbers
  pub chain-without : (list : List ℕ) (back at : ℕ) → IsChain next before back at list → among n list ≡ true → among back list ≡ false → IsChain next_new before_new back (past next n at) (without n list)
  chain-without [] back at chain h apart = absurd (cc)
  chain-without (k ∷ rest) back at chain h apart = elim (cases_eq n k) [
    | inl e ↦ taken_first k rest back at e chain apart
    | inr ne ↦
        let inside : among n rest ≡ true = elim (among_cases n k rest h) [ inl e ↦ absurd (ne e) | inr r ↦ r ] in
        let tail = chain-without rest k (get_or next k 0) chain.5 inside chain.4 in
        let lead : past next n at ≡ k = cond-false (nat_eq at n) (get_or next n 0) at (ne_eqb at n (λ (f : at ≡ n). ne (sym f ∙ chain.0))) ∙ chain.0 in
        subst (λ l. IsChain next_new before_new back (past next n at) l) (sym (without_later n k rest ne)) (
          lead,
          chain.1,
          chain.2,
          befores k (not_after k rest chain.1 chain.4 chain.5 inside) ∙ chain.3,
          among-less k n rest chain.4,
          subst (λ a. IsChain next_new before_new k a (without n rest)) (sym (onward_past k rest chain.1 chain.4 chain.5 inside)) tail,
        )
  ]
