-- Tables that lead through the list of each group.
use Rattle.std.proofs.Common.{◌≡◌, ◌≢◌, ℕ, zero, suc, ◌<◌, Bool, true, false, not, ◌&&◌, ◌||◌, if◌then◌else◌, nat_eq, ◌⊎◌, inl, inr, List, [], ◌∷◌, length, get_or, set, refl, sym, ap, ◌∙◌, ap₂, subst, arith}
use Rattle.std.proofs.lemmas.Bool.{cases_Bool, false≢true, cases_eq, cases_lt, or_cases, or_left, or_right, and_left, and_from, and_parts, eqb-true, eq-eqb, ne_eqb, cond-true, cond-false}
use Rattle.std.proofs.lemmas.List.{get_or-set_same, get_or-set_other, get_or-map, get_or_past, length-map, length-set}
use mathlib.Core.Path.{fun_ext}
use Rattle.lp_numbers.specs.Groups.{is_member}
use Rattle.lp_numbers.specs.Numbers.{Numbers, has}
use Rattle.lp_numbers.specs.inside.Links.{among, walk, list_from, groups_of, IsChain, AreLists, IsLinked}
use Rattle.lp_numbers.proofs.Chains.{differs, among_first, among_rest, chain-positive, chain-below, chain-first, chain-next, chain-before, chain-back, list_from-chain, chain-same, chain-led, without, among-without, past, chain-without}

-- ---- What tables stand for

-- a group has the members of the list that begins with its first
pub is_member-groups_of : (first next : List ℕ) (group n : ℕ) → is_member (groups_of first next) group n ≡ among n (list_from next (get_or first group 0))
unfolding groups_of walk
is_member-groups_of first next group n = elim (cases_lt group (length first)) [
  | inl h ↦ ap (among n) (get_or-map (list_from next) first group 0 [] h)
  | inr h ↦
      let none : get_or (groups_of first next) group [] ≡ [] = get_or_past (groups_of first next) group [] (omega (arith, length-map first (list_from next))) in
      ap (among n) none ∙ ap (λ a. among n (list_from next a)) (sym (get_or_past first group 0 h))
]

-- and no others
pub list-groups_of : (first next : List ℕ) (group : ℕ) → get_or (groups_of first next) group [] ≡ list_from next (get_or first group 0)
unfolding groups_of walk
list-groups_of first next group = elim (cases_lt group (length first)) [
  | inl h ↦ get_or-map (list_from next) first group 0 [] h
  | inr h ↦
      let none : get_or (groups_of first next) group [] ≡ [] = get_or_past (groups_of first next) group [] (omega (arith, length-map first (list_from next))) in
      none ∙ ap (list_from next) (sym (get_or_past first group 0 h))
]

-- ---- Tables and the lists that they lead through

module _ (first next before : List ℕ) (lists : ℕ → List ℕ) (are : AreLists first next before lists) where
  -- a walk is the list that the tables lead through
  pub walks-lists : (group : ℕ) → list_from next (get_or first group 0) ≡ lists group
  walks-lists group = list_from-chain next before (lists group) 0 (get_or first group 0) (are.chained group)

  -- whoever is in a group's list is a member
  pub is_member-lists : (group n : ℕ) → is_member (groups_of first next) group n ≡ among n (lists group)
  is_member-lists group n = is_member-groups_of first next group n ∙ ap (among n) (walks-lists group)

  -- the tables are linked
  pub linked-lists : length first ≡ 65536 → length next ≡ 65536 → length before ≡ 65536 → IsLinked first next before
  linked-lists firsts nexts befores = record {
    firsts = firsts;
    nexts = nexts;
    befores = befores;
    lists = subst (AreLists first next before) (sym (fun_ext walks-lists)) are;
  }

  -- 0 is in no list
  pub zero_out : (group : ℕ) → among 0 (lists group) ≡ false
  zero_out group = elim (cases_Bool (among 0 (lists group))) [
    | inl h ↦ absurd (omega (arith, chain-positive next before (lists group) 0 (get_or first group 0) 0 (are.chained group) h))
    | inr h ↦ h
  ]

  -- a number that is 0 or in one list isn't in another
  pub elsewhere : (group other m n : ℕ) → other ≢ group → (n ≡ 0) ⊎ (among n (lists group) ≡ true) → among m (lists other) ≡ true → m ≢ n
  elsewhere group other m n ne (inl none) h e = differs m 0 (lists other) h (zero_out other) (e ∙ none)
  elsewhere group other m n ne (inr there) h e = ne (are.apart other group n (subst (λ k. among k (lists other) ≡ true) e h) there)

-- ---- A number is put into a group

-- the lists once a number is put in front of one of them
abbrev pub with_member : (ℕ → List ℕ) → ℕ → ℕ → ℕ → List ℕ
with_member lists group number other = if nat_eq other group then number ∷ lists other else lists other

with_member-same : (lists : ℕ → List ℕ) (group number other : ℕ) → other ≡ group → with_member lists group number other ≡ number ∷ lists other
with_member-same lists group number other e = cond-true (nat_eq other group) (number ∷ lists other) (lists other) (eq-eqb other group e)

with_member-other : (lists : ℕ → List ℕ) (group number other : ℕ) → other ≢ group → with_member lists group number other ≡ lists other
with_member-other lists group number other ne = cond-false (nat_eq other group) (number ∷ lists other) (lists other) (ne_eqb other group ne)

joins : (a b : Bool) → b ≡ true → (a || b) ≡ true
joins true b e = refl
joins false b e = e

alone : (a b : Bool) → b ≡ false → (a || b) ≡ a
alone true b e = refl
alone false b e = e

-- who is in the lists then
pub among-with_member : (lists : ℕ → List ℕ) (group number other n : ℕ) → among n (with_member lists group number other) ≡ (among n (lists other) || (nat_eq other group && nat_eq n number))
among-with_member lists group number other n = by (nat_eq other group) (nat_eq n number) (among n (lists other)) (lists other) refl
  where
    by : (here same is : Bool) (list : List ℕ) → is ≡ among n list → among n (if here then number ∷ list else list) ≡ (is || (here && nat_eq n number))
    by true same true list e = joins (nat_eq n number) (among n list) (sym e)
    by true same false list e = alone (nat_eq n number) (among n list) (sym e)
    by false same true list e = sym e
    by false same false list e = sym e

-- tables by which a number is in front of a group's list
pub record ArePut (first next before first_new next_new before_new : List ℕ) (group number : ℕ) : Type 0 where
  pub first_here : get_or first_new group 0 ≡ number
  pub first_others : (other : ℕ) → other ≢ group → get_or first_new other 0 ≡ get_or first other 0
  pub next_here : get_or next_new number 0 ≡ get_or first group 0
  pub next_others : (m : ℕ) → m ≢ number → get_or next_new m 0 ≡ get_or next m 0
  pub before_here : get_or before_new number 0 ≡ 0
  pub before_head : get_or before_new (get_or first group 0) 0 ≡ number
  pub before_others : (m : ℕ) → m ≢ number → m ≢ get_or first group 0 → get_or before_new m 0 ≡ get_or before m 0

module _ (first next before : List ℕ) (lists : ℕ → List ℕ) (group number : ℕ) (are : AreLists first next before lists) (positive : 0 < number) (number_within : number < 65536) (free : (other : ℕ) → among number (lists other) ≡ false) where
  head_in : (get_or first group 0 ≡ 0) ⊎ (among (get_or first group 0) (lists group) ≡ true)
  head_in = chain-first next before (lists group) 0 (get_or first group 0) (are.chained group)

  head_within : get_or first group 0 < 65536
  head_within = elim head_in [
    | inl none ↦ omega (arith, none)
    | inr h ↦ chain-below next before (lists group) 0 (get_or first group 0) (get_or first group 0) (are.chained group) h
  ]

  head_apart : number ≢ get_or first group 0
  head_apart e = elim head_in [
    | inl none ↦ absurd (omega (arith, e, none, positive))
    | inr h ↦ differs (get_or first group 0) number (lists group) h (free group) (sym e)
  ]

  -- the tables after the writes
  are_put : group < 65536 → length first ≡ 65536 → length next ≡ 65536 → length before ≡ 65536 → ArePut first next before (set first group number) (set next number (get_or first group 0)) (set (set before number 0) (get_or first group 0) number) group number
  are_put group_within firsts nexts befores = record {
    first_here = get_or-set_same first group number 0 (omega (arith, firsts));
    first_others = λ other ne. get_or-set_other first group other number 0 ne;
    next_here = get_or-set_same next number (get_or first group 0) 0 (omega (arith, nexts, number_within));
    next_others = λ m ne. get_or-set_other next number m (get_or first group 0) 0 ne;
    before_here = get_or-set_other (set before number 0) (get_or first group 0) number number 0 head_apart ∙ get_or-set_same before number 0 0 (omega (arith, befores, number_within));
    before_head = get_or-set_same (set before number 0) (get_or first group 0) number 0 (omega (arith, length-set before number 0, befores, head_within));
    before_others = λ m ne other. get_or-set_other (set before number 0) (get_or first group 0) m number 0 other ∙ get_or-set_other before number m 0 0 ne;
  }

  module _ (first_new next_new before_new : List ℕ) (put : ArePut first next before first_new next_new before_new group number) where
    chained_here : IsChain next_new before_new 0 (get_or first_new group 0) (number ∷ lists group)
    chained_here =
        let onward = chain-led next before next_new before_new (lists group) 0 number (get_or first group 0) (λ m h. put.next_others m (differs m number (lists group) h (free group))) (λ m h ne. put.before_others m (differs m number (lists group) h (free group)) ne) put.before_head (are.chained group) in
        (put.first_here, positive, number_within, put.before_here, free group, subst (λ a. IsChain next_new before_new number a (lists group)) (sym put.next_here) onward)

    chained_there : (other : ℕ) → other ≢ group → IsChain next_new before_new 0 (get_or first_new other 0) (lists other)
    chained_there other ne =
        subst (λ a. IsChain next_new before_new 0 a (lists other)) (sym (put.first_others other ne))
        (chain-same next before next_new before_new (lists other) 0 (get_or first other 0) (λ m h. put.next_others m (differs m number (lists other) h (free other))) (λ m h. put.before_others m (differs m number (lists other) h (free other)) (elsewhere first next before lists are group other m (get_or first group 0) ne head_in h)) (are.chained other))

    was_or_is : (other n : ℕ) → among n (with_member lists group number other) ≡ true → (among n (lists other) ≡ true) ⊎ ((other ≡ group) × (n ≡ number))
    was_or_is other n h = elim (or_cases (among n (lists other)) (nat_eq other group && nat_eq n number) (sym (among-with_member lists group number other n) ∙ h)) [
      | inl was ↦ inl was
      | inr is ↦ let both = and_parts (nat_eq other group) (nat_eq n number) is in inr (eqb-true other group both.0, eqb-true n number both.1)
    ]

    apart_by : (one other n : ℕ) → (among n (lists one) ≡ true) ⊎ ((one ≡ group) × (n ≡ number)) → (among n (lists other) ≡ true) ⊎ ((other ≡ group) × (n ≡ number)) → one ≡ other
    apart_by one other n (inl p) (inl q) = are.apart one other n p q
    apart_by one other n (inl p) (inr q) = absurd (differs n number (lists one) p (free one) q.1)
    apart_by one other n (inr p) (inl q) = absurd (differs n number (lists other) q (free other) p.1)
    apart_by one other n (inr p) (inr q) = p.0 ∙ sym q.0

    -- the tables lead through the lists with the new member
    pub lists-put : AreLists first_new next_new before_new (with_member lists group number)
    lists-put = record {
      chained = λ other. elim (cases_eq other group) [
        | inl e ↦ subst (λ l. IsChain next_new before_new 0 (get_or first_new other 0) l) (sym (with_member-same lists group number other e)) (subst (λ o. IsChain next_new before_new 0 (get_or first_new o 0) (number ∷ lists o)) (sym e) chained_here)
        | inr ne ↦ subst (λ l. IsChain next_new before_new 0 (get_or first_new other 0) l) (sym (with_member-other lists group number other ne)) (chained_there other ne)
      ];
      apart = λ one other n h i. apart_by one other n (was_or_is one n h) (was_or_is other n i);
    }

-- the tables once a number is put into a group
pub lists-inserted : (first next before : List ℕ) (group number : ℕ) → IsLinked first next before → group < 65536 → number < 65536 → 0 < number → ((other : ℕ) → is_member (groups_of first next) other number ≡ false) → AreLists (set first group number) (set next number (get_or first group 0)) (set (set before number 0) (get_or first group 0) number) (with_member (λ other. list_from next (get_or first other 0)) group number)
lists-inserted first next before group number linked group_within number_within positive free =
    let lists = λ (other : ℕ). list_from next (get_or first other 0) in
    let out : (other : ℕ) → among number (lists other) ≡ false = λ other. sym (is_member-groups_of first next other number) ∙ free other in
    lists-put first next before lists group number linked.lists positive number_within out _ _ _ (are_put first next before lists group number linked.lists positive number_within out group_within linked.firsts linked.nexts linked.befores)

module _ (first next before : List ℕ) (group number head : ℕ) (linked : IsLinked first next before) (group_within : group < 65536) (number_within : number < 65536) (positive : 0 < number) (free : (other : ℕ) → is_member (groups_of first next) other number ≡ false) (is_head : head ≡ get_or first group 0) where
  inserted_lists : AreLists (set first group number) (set next number head) (set (set before number 0) head number) (with_member (λ other. list_from next (get_or first other 0)) group number)
  inserted_lists = rw is_head (lists-inserted first next before group number linked group_within number_within positive free)

  -- the tables are linked still
  pub linked-inserted : IsLinked (set first group number) (set next number head) (set (set before number 0) head number)
  linked-inserted = linked-lists _ _ _ _ inserted_lists (length-set first group number ∙ linked.firsts) (length-set next number head ∙ linked.nexts) (length-set (set before number 0) head number ∙ length-set before number 0 ∙ linked.befores)

  -- who is a member then
  pub member-inserted : (other n : ℕ) → is_member (groups_of (set first group number) (set next number head)) other n ≡ (is_member (groups_of first next) other n || (nat_eq other group && nat_eq n number))
  member-inserted other n =
      is_member-lists _ _ _ _ inserted_lists other n
      ∙ among-with_member (λ o. list_from next (get_or first o 0)) group number other n
      ∙ ap (λ b. b || (nat_eq other group && nat_eq n number)) (sym (is_member-groups_of first next other n))

-- ---- A number is taken out of its group

-- the lists once a number is taken out of one of them
abbrev pub without_member : (ℕ → List ℕ) → ℕ → ℕ → ℕ → List ℕ
without_member lists group number other = if nat_eq other group then without number (lists other) else lists other

without_member-same : (lists : ℕ → List ℕ) (group number other : ℕ) → other ≡ group → without_member lists group number other ≡ without number (lists other)
without_member-same lists group number other e = cond-true (nat_eq other group) (without number (lists other)) (lists other) (eq-eqb other group e)

without_member-other : (lists : ℕ → List ℕ) (group number other : ℕ) → other ≢ group → without_member lists group number other ≡ lists other
without_member-other lists group number other ne = cond-false (nat_eq other group) (without number (lists other)) (lists other) (ne_eqb other group ne)

-- tables by which a number is in a group's list no longer
pub record AreTaken (first next before first_new next_new before_new : List ℕ) (group number : ℕ) : Type 0 where
  pub first_here : get_or first_new group 0 ≡ past next number (get_or first group 0)
  pub first_others : (other : ℕ) → other ≢ group → get_or first_new other 0 ≡ get_or first other 0
  pub next_here : get_or next_new (get_or before number 0) 0 ≡ get_or next number 0
  pub next_others : (m : ℕ) → m ≢ get_or before number 0 → get_or next_new m 0 ≡ get_or next m 0
  pub before_here : get_or before_new (get_or next number 0) 0 ≡ get_or before number 0
  pub before_others : (m : ℕ) → m ≢ get_or next number 0 → get_or before_new m 0 ≡ get_or before m 0

module _ (first next before : List ℕ) (lists : ℕ → List ℕ) (group number : ℕ) (are : AreLists first next before lists) (member : among number (lists group) ≡ true) where
  next_in : (get_or next number 0 ≡ 0) ⊎ (among (get_or next number 0) (lists group) ≡ true)
  next_in = chain-next next before (lists group) 0 (get_or first group 0) number (are.chained group) member

  back_in : ((get_or before number 0 ≡ 0) × (get_or first group 0 ≡ number)) ⊎ (among (get_or before number 0) (lists group) ≡ true)
  back_in = chain-before next before (lists group) 0 (get_or first group 0) number (are.chained group) member

  back_zero : (get_or before number 0 ≡ 0) ⊎ (among (get_or before number 0) (lists group) ≡ true)
  back_zero = elim back_in [ inl there ↦ inl there.0 | inr h ↦ inr h ]

  within_lists : (n : ℕ) → (n ≡ 0) ⊎ (among n (lists group) ≡ true) → n < 65536
  within_lists n (inl none) = omega (arith, none)
  within_lists n (inr h) = chain-below next before (lists group) 0 (get_or first group 0) n (are.chained group) h

  -- who is in the lists then
  pub among-without_member : (other n : ℕ) → among n (without_member lists group number other) ≡ (among n (lists other) && not (nat_eq n number))
  among-without_member other n = elim (cases_eq other group) [
    | inl e ↦ ap (among n) (without_member-same lists group number other e) ∙ among-without next before n number (lists other) 0 (get_or first other 0) (are.chained other)
    | inr ne ↦ ap (among n) (without_member-other lists group number other ne) ∙ kept other n ne
  ]
    where
      kept : (other n : ℕ) → other ≢ group → among n (lists other) ≡ (among n (lists other) && not (nat_eq n number))
      kept other n ne = elim (cases_Bool (among n (lists other))) [
        | inl h ↦
            let differ : n ≢ number = elsewhere first next before lists are group other n number ne (inr member) h in
            h ∙ sym (and_from (among n (lists other)) (not (nat_eq n number)) h (ap not (ne_eqb n number differ)))
        | inr h ↦ h ∙ sym (and_left (among n (lists other)) (not (nat_eq n number)) h)
      ]

  module _ (first_new next_new before_new : List ℕ) (taken : AreTaken first next before first_new next_new before_new group number) where
    rest_here : IsChain next_new before_new 0 (get_or first_new group 0) (without number (lists group))
    rest_here =
        subst (λ a. IsChain next_new before_new 0 a (without number (lists group))) (sym taken.first_here)
        (chain-without next before next_new before_new number taken.next_others taken.before_others taken.before_here (λ _. taken.next_here) (lists group) 0 (get_or first group 0) (are.chained group) member (zero_out first next before lists are group))

    rest_there : (other : ℕ) → other ≢ group → IsChain next_new before_new 0 (get_or first_new other 0) (lists other)
    rest_there other ne =
        subst (λ a. IsChain next_new before_new 0 a (lists other)) (sym (taken.first_others other ne))
        (chain-same next before next_new before_new (lists other) 0 (get_or first other 0) (λ m h. taken.next_others m (elsewhere first next before lists are group other m (get_or before number 0) ne back_zero h)) (λ m h. taken.before_others m (elsewhere first next before lists are group other m (get_or next number 0) ne next_in h)) (are.chained other))

    -- the tables lead through the lists without the member
    pub lists-taken : AreLists first_new next_new before_new (without_member lists group number)
    lists-taken = record {
      chained = λ other. elim (cases_eq other group) [
        | inl e ↦ subst (λ l. IsChain next_new before_new 0 (get_or first_new other 0) l) (sym (without_member-same lists group number other e)) (subst (λ o. IsChain next_new before_new 0 (get_or first_new o 0) (without number (lists o))) (sym e) rest_here)
        | inr ne ↦ subst (λ l. IsChain next_new before_new 0 (get_or first_new other 0) l) (sym (without_member-other lists group number other ne)) (rest_there other ne)
      ];
      apart = λ one other n h i. are.apart one other n (and_parts (among n (lists one)) (not (nat_eq n number)) (sym (among-without_member one n) ∙ h)).0 (and_parts (among n (lists other)) (not (nat_eq n number)) (sym (among-without_member other n) ∙ i)).0;
    }

  -- the tables after the writes, where the number is the first
  pub taken-first : get_or before number 0 ≡ 0 → group < 65536 → length first ≡ 65536 → length next ≡ 65536 → length before ≡ 65536 → AreTaken first next before (set first group (get_or next number 0)) (set next (get_or before number 0) (get_or next number 0)) (set before (get_or next number 0) (get_or before number 0)) group number
  taken-first none group_within firsts nexts befores = record {
    first_here = get_or-set_same first group (get_or next number 0) 0 (omega (arith, firsts)) ∙ sym (cond-true (nat_eq (get_or first group 0) number) (get_or next number 0) (get_or first group 0) (eq-eqb (get_or first group 0) number is_first));
    first_others = λ other ne. get_or-set_other first group other (get_or next number 0) 0 ne;
    next_here = get_or-set_same next (get_or before number 0) (get_or next number 0) 0 (omega (arith, nexts, none));
    next_others = λ m ne. get_or-set_other next (get_or before number 0) m (get_or next number 0) 0 ne;
    before_here = get_or-set_same before (get_or next number 0) (get_or before number 0) 0 (omega (arith, befores, within_lists (get_or next number 0) next_in));
    before_others = λ m ne. get_or-set_other before (get_or next number 0) m (get_or before number 0) 0 ne;
  }
    where
      is_first : get_or first group 0 ≡ number
      is_first = elim back_in [
        | inl there ↦ there.1
        | inr h ↦ absurd (omega (arith, none, chain-positive next before (lists group) 0 (get_or first group 0) (get_or before number 0) (are.chained group) h))
      ]

  -- the tables after the writes, where it isn't
  pub taken-later : get_or before number 0 ≢ 0 → length next ≡ 65536 → length before ≡ 65536 → AreTaken first next before first (set next (get_or before number 0) (get_or next number 0)) (set before (get_or next number 0) (get_or before number 0)) group number
  taken-later some nexts befores = record {
    first_here = sym (cond-false (nat_eq (get_or first group 0) number) (get_or next number 0) (get_or first group 0) (ne_eqb (get_or first group 0) number isnt_first));
    first_others = λ other ne. refl;
    next_here = get_or-set_same next (get_or before number 0) (get_or next number 0) 0 (omega (arith, nexts, within_lists (get_or before number 0) back_zero));
    next_others = λ m ne. get_or-set_other next (get_or before number 0) m (get_or next number 0) 0 ne;
    before_here = get_or-set_same before (get_or next number 0) (get_or before number 0) 0 (omega (arith, befores, within_lists (get_or next number 0) next_in));
    before_others = λ m ne. get_or-set_other before (get_or next number 0) m (get_or before number 0) 0 ne;
  }
    where
      isnt_first : get_or first group 0 ≢ number
      isnt_first e = some (chain-back next before (lists group) 0 (get_or first group 0) number (are.chained group) e member)

module _ (first next before first_new : List ℕ) (group number back on : ℕ) (linked : IsLinked first next before) (member : is_member (groups_of first next) group number ≡ true) (is_on : on ≡ get_or next number 0) (is_back : back ≡ get_or before number 0) (led : (back ≡ 0) × (first_new ≡ set first group on) ⊎ (back ≢ 0) × (first_new ≡ first)) (group_within : group < 65536) where
  inside : among number (list_from next (get_or first group 0)) ≡ true
  inside = sym (is_member-groups_of first next group number) ∙ member

  removed_tables : AreTaken first next before first_new (set next back on) (set before on back) group number
  removed_tables = rw (is_on, is_back) (elim led [
    | inl l ↦ rw (l.1, is_on) (taken-first first next before (λ o. list_from next (get_or first o 0)) group number linked.lists inside (sym is_back ∙ l.0) group_within linked.firsts linked.nexts linked.befores)
    | inr l ↦ rw l.1 (taken-later first next before (λ o. list_from next (get_or first o 0)) group number linked.lists inside (λ e. l.0 (is_back ∙ e)) linked.nexts linked.befores)
  ])

  removed_lists : AreLists first_new (set next back on) (set before on back) (without_member (λ other. list_from next (get_or first other 0)) group number)
  removed_lists = lists-taken first next before (λ o. list_from next (get_or first o 0)) group number linked.lists inside _ _ _ removed_tables

  first_length : length first_new ≡ 65536
  first_length = elim led [
    | inl l ↦ ap length l.1 ∙ length-set first group on ∙ linked.firsts
    | inr l ↦ ap length l.1 ∙ linked.firsts
  ]

  -- the tables are linked still
  pub linked-removed : IsLinked first_new (set next back on) (set before on back)
  linked-removed = linked-lists _ _ _ _ removed_lists first_length (length-set next back on ∙ linked.nexts) (length-set before on back ∙ linked.befores)

  -- who is a member then
  pub member-removed : (other n : ℕ) → is_member (groups_of first_new (set next back on)) other n ≡ (is_member (groups_of first next) other n && not (nat_eq n number))
  member-removed other n =
      is_member-lists _ _ _ _ removed_lists other n
      ∙ among-without_member first next before (λ o. list_from next (get_or first o 0)) group number linked.lists inside other n
      ∙ ap (λ b. b && not (nat_eq n number)) (sym (is_member-groups_of first next other n))

-- ---- A walk along a group

module _ (next before : List ℕ) (back at : ℕ) (some : at ≢ 0) where
  on-by : (list : List ℕ) → list_from next at ≡ list → IsChain next before back at list → (list_from next at ≡ at ∷ list_from next (get_or next at 0)) × IsChain next before at (get_or next at 0) (list_from next (get_or next at 0))
  on-by [] e chain = absurd (some chain)
  on-by (n ∷ rest) e chain =
      let onward : IsChain next before at (get_or next at 0) rest = subst (λ m. IsChain next before m (get_or next m 0) rest) (sym chain.0) chain.5 in
      let walked : list_from next (get_or next at 0) ≡ rest = list_from-chain next before rest at (get_or next at 0) onward in
      (e ∙ ap₂ (λ m l. m ∷ l) (sym chain.0) (sym walked), subst (λ l. IsChain next before at (get_or next at 0) l) (sym walked) onward)

  -- a walk goes on from its first number
  pub walk-on : IsChain next before back at (list_from next at) → (list_from next at ≡ at ∷ list_from next (get_or next at 0)) × IsChain next before at (get_or next at 0) (list_from next (get_or next at 0))
  walk-on chain = on-by (list_from next at) refl chain

-- ---- No member, and one alone

pub none_walked : (next : List ℕ) (count : ℕ) → walk next count 0 ≡ []
unfolding walk
none_walked next zero = refl
none_walked next (suc count) = refl

or_false : (b : Bool) → (b || false) ≡ b
or_false true = refl
or_false false = refl

only-by : (next before : List ℕ) (number : ℕ) (list : List ℕ) (back at : ℕ) → IsChain next before back at list → ((n : ℕ) → among n list ≡ nat_eq n number) → (0 < number) × (at ≡ number) × (get_or next number 0 ≡ 0)
only-by next before number [] back at chain told = let here = told number ∙ eq-eqb number number refl in absurd (cc)
only-by next before number (k ∷ rest) back at chain told =
    let first : k ≡ number = eqb-true k number (sym (told k) ∙ among_first k rest) in
    let last : get_or next k 0 ≡ 0 = elim (chain-first next before rest k (get_or next k 0) chain.5) [
      | inl none ↦ none
      | inr more ↦
          let same : get_or next k 0 ≡ number = eqb-true (get_or next k 0) number (sym (told (get_or next k 0)) ∙ among_rest (get_or next k 0) k rest more) in
          absurd (differs (get_or next k 0) k rest more chain.4 (same ∙ sym first))
    ] in
    (subst (λ m. 0 < m) first chain.1, chain.0 ∙ first, ap (λ m. get_or next m 0) (sym first) ∙ last)

module _ (first next before : List ℕ) (group : ℕ) (linked : IsLinked first next before) where
  -- a group without a first member has none
  pub empty-is : get_or first group 0 ≡ 0 → (n : ℕ) → is_member (groups_of first next) group n ≡ false
  empty-is none n = is_member-groups_of first next group n ∙ ap (λ a. among n (list_from next a)) none ∙ ap (among n) (none_walked next 65536)

  pub empty-from : ((n : ℕ) → is_member (groups_of first next) group n ≡ false) → get_or first group 0 ≡ 0
  empty-from nobody = elim (chain-first next before (list_from next (get_or first group 0)) 0 (get_or first group 0) (linked.lists.chained group)) [
    | inl none ↦ none
    | inr h ↦ absurd (false≢true (sym (nobody (get_or first group 0)) ∙ is_member-groups_of first next group (get_or first group 0) ∙ h))
  ]

  -- the first member is one
  pub first-is : get_or first group 0 ≢ 0 → is_member (groups_of first next) group (get_or first group 0) ≡ true
  first-is some = elim (chain-first next before (list_from next (get_or first group 0)) 0 (get_or first group 0) (linked.lists.chained group)) [
    | inl none ↦ absurd (some none)
    | inr h ↦ is_member-groups_of first next group (get_or first group 0) ∙ h
  ]

  -- a first member without a next one is the only one
  pub only-is : (number : ℕ) → number ≢ 0 → get_or first group 0 ≡ number → get_or next number 0 ≡ 0 → (n : ℕ) → is_member (groups_of first next) group n ≡ nat_eq n number
  only-is number some is last n =
      let chain : IsChain next before 0 number (list_from next number) = subst (λ a. IsChain next before 0 a (list_from next a)) is (linked.lists.chained group) in
      let on = walk-on next before 0 number some chain in
      is_member-groups_of first next group n
      ∙ ap (λ a. among n (list_from next a)) is
      ∙ ap (among n) (on.0 ∙ ap (λ a. number ∷ list_from next a) last ∙ ap (λ l. number ∷ l) (none_walked next 65536))
      ∙ or_false (nat_eq n number)

  pub only-from : (number : ℕ) → ((n : ℕ) → is_member (groups_of first next) group n ≡ nat_eq n number) → (0 < number) × (get_or first group 0 ≡ number) × (get_or next number 0 ≡ 0)
  only-from number told = only-by next before number (list_from next (get_or first group 0)) 0 (get_or first group 0) (linked.lists.chained group) (λ n. sym (is_member-groups_of first next group n) ∙ told n)

-- ---- The members of a group are added to a set

-- a walk goes through numbers below 65,536, or ends
pub at-below : (next before : List ℕ) (back at : ℕ) → IsChain next before back at (list_from next at) → at < 65536
at-below next before back at chain = elim (chain-first next before (list_from next at) back at chain) [
  | inl none ↦ omega (arith, none)
  | inr h ↦ chain-below next before (list_from next at) back at at chain h
]

-- a number is added to a set
pub added : (members : Numbers) (at n : ℕ) (rest : List ℕ) → at < length members → (has (set members at true) n || among n rest) ≡ (has members n || among n (at ∷ rest))
added members at n rest within = elim (cases_eq n at) [
  | inl e ↦
      let here : has (set members at true) n ≡ true = ap (has (set members at true)) e ∙ get_or-set_same members at true false within in
      or_left (has (set members at true) n) (among n rest) here ∙ sym (or_right (has members n) (among n (at ∷ rest)) (or_left (nat_eq n at) (among n rest) (eq-eqb n at e)))
  | inr ne ↦
      ap (λ b. b || among n rest) (get_or-set_other members at n true false ne) ∙ ap (λ b. has members n || (b || among n rest)) (sym (ne_eqb n at ne))
]

-- past the last number nothing is left
pub none_left : (next : List ℕ) (at n : ℕ) (b : Bool) → at ≡ 0 → (b || among n (list_from next at)) ≡ b
none_left next at n b e = ap (λ l. b || among n l) (ap (list_from next) e ∙ none_walked next 65536) ∙ or_false b

-- ---- No number is in a group

-- tables without a first member
pub lists-none : (first next before : List ℕ) → ((group : ℕ) → get_or first group 0 ≡ 0) → AreLists first next before (λ group. [])
lists-none first next before none = record { chained = none; apart = λ group other n h i. absurd (false≢true h) }

pub ruleset links = (is_member-groups_of)
