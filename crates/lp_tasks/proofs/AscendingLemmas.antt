-- The members of a set in increasing order, as a loop over the set takes them.
use Rattle.std.proofs.Common.{◌≡◌, ℕ, zero, suc, ◌+◌, ◌-◌, ◌<◌, ◌≤◌, ◌↔◌, Bool, true, false, not, List, [], ◌∷◌, ◌++◌, length, nat_eq, Option, Some, None, is_some, refl, sym, ap, ap₂, ◌∙◌, ⊎_elim, arith, length-append}
use Rattle.std.proofs.lemmas.Bool.{cases_Bool, cases_eq, cases_lt, eq-eqb, not-true, not-false}
use Rattle.std.proofs.lemmas.List.{append-nil}
use Rattle.std.specs.Iterator.{YieldsFirst}
use Rattle.std.specs.List.{list_any}
use Rattle.std.specs.Option.{option_eq}
use Rattle.lp_numbers.specs.Numbers.{Numbers, has, IsLeastFrom}
use Rattle.lp_numbers.specs.Ascending.{members_from}
use Rattle.lp_tasks.specs.Passing.{passing, place_of}
use Rattle.lp_tasks.proofs.Passing.{passes, keep_one, skip_one, passing-any}

-- they are the numbers that pass the test of being a member
pub members-passing : (set : Numbers) → members_from 0 set ≡ passing 0 65536 (has set)
unfolding members_from passing
members-passing set = refl

pub ruleset in_order = (members-passing)

-- no other number is among them
pub members-any : (set : Numbers) (left : List ℕ) → left ≡ members_from 0 set → (n : ℕ) → n < 65536 → list_any (nat_eq n) left ≡ has set n
members-any set left is n few = ap (list_any (nat_eq n)) (is ∙ members-passing set) ∙ passing-any 65536 (has set) n few

-- ---- Those that are left in a loop

module _ (test : ℕ → Bool) where
  least_in : (k first n : ℕ) (left : List ℕ) → first + k ≡ 65536 → n ∷ left ≡ passes test first k → IsLeastFrom test first n
  least_in zero first n left whole is = absurd (cc)
  least_in (suc k) first n left whole is =
      ⊎_elim
      (λ (yes : test first ≡ true).
      let more = is ∙ keep_one test first k yes in
      let same : n ≡ first = cc in
      let l : IsLeastFrom test first n = record { within = omega (arith, same); passes = ap test same ∙ yes; least = λ t low high. absurd (omega (arith, same, low, high)) } in
      l)
      (λ (out : test first ≡ false).
      let later = least_in k (first + 1) n left (omega arith) (is ∙ skip_one test first k out) in
      let below_later = later.within in
      let l : IsLeastFrom test first n = record {
        within = omega (arith, below_later);
        passes = later.passes;
        least = λ t low high. ⊎_elim (λ (same : t ≡ first). ap test same ∙ out) (λ (ne : t ≡ first → ⊥). later.least t (omega (arith, ne, low)) high) (cases_eq t first);
      } in
      l)
      (cases_Bool (test first))

  over_in : (k first : ℕ) → first + k ≡ 65536 → [] ≡ passes test first k → (t : ℕ) → first ≤ t → t < 65536 → test t ≡ false
  over_in zero first whole is t low high = absurd (omega (arith, whole, low, high))
  over_in (suc k) first whole is t low high =
      ⊎_elim
      (λ (yes : test first ≡ true). let none = is ∙ keep_one test first k yes in absurd (cc))
      (λ (out : test first ≡ false).
      ⊎_elim
      (λ (same : t ≡ first). ap test same ∙ out)
      (λ (ne : t ≡ first → ⊥). over_in k (first + 1) (omega arith) (is ∙ skip_one test first k out) t (omega (arith, ne, low)) high)
      (cases_eq t first))
      (cases_Bool (test first))

  -- the next of those that pass is the first that does
  pub passing-least : (first n : ℕ) (left : List ℕ) → first ≤ 65536 → n ∷ left ≡ passing first 65536 test → IsLeastFrom test first n
  unfolding passing
  passing-least first n left fits is = least_in (65536 - first) first n left (omega arith) is

  -- and where none is left none does
  pub passing-over : (first : ℕ) → first ≤ 65536 → [] ≡ passing first 65536 test → (t : ℕ) → first ≤ t → t < 65536 → test t ≡ false
  unfolding passing
  passing-over first fits is = over_in (65536 - first) first (omega arith) is

-- no member from a first number on is before them
pub record IsBefore (set : Numbers) (first : ℕ) (left : List ℕ) : Type 0 where
  pub low : first ≤ place_of left
  pub none : (t : ℕ) → first ≤ t → t < place_of left → has set t ≡ false

before_in : (set : Numbers) (k first : ℕ) (left : List ℕ) → first + k ≡ 65536 → left ≡ passes (has set) first k → IsBefore set first left
before_in set zero first left whole is =
    let end : place_of left ≡ 65536 = ap place_of is in
    record { low = omega arith; none = λ t low high. absurd (omega arith) }
before_in set (suc k) first left whole is =
    ⊎_elim
    (λ (yes : has set first ≡ true).
    let here : place_of left ≡ first = ap place_of (is ∙ keep_one (has set) first k yes) in
    let b : IsBefore set first left = record { low = omega arith; none = λ t low high. absurd (omega arith) } in
    b)
    (λ (out : has set first ≡ false).
    let later = before_in set k (first + 1) left (omega arith) (is ∙ skip_one (has set) first k out) in
    let more = later.low in
    let b : IsBefore set first left = record {
      low = omega (arith, more);
      none = λ t low high. ⊎_elim (λ (same : t ≡ first). ap (has set) same ∙ out) (λ (ne : t ≡ first → ⊥). later.none t (omega (arith, ne)) high) (cases_eq t first);
    } in
    b)
    (cases_Bool (has set first))

pub members-before : (set : Numbers) (first : ℕ) (left : List ℕ) → first ≤ 65536 → left ≡ members_from first set → IsBefore set first left
unfolding members_from
members-before set first left fits is = before_in set (65536 - first) first left (omega arith) is

rest_in : (test : ℕ → Bool) (k first n : ℕ) (left : List ℕ) → first + k ≡ 65536 → n ∷ left ≡ passes test first k → left ≡ passes test (n + 1) (65536 - (n + 1))
rest_in test zero first n left whole is = absurd (cc)
rest_in test (suc k) first n left whole is =
    ⊎_elim
    (λ (yes : test first ≡ true).
    let more = is ∙ keep_one test first k yes in
    let same : n ≡ first = cc in
    let rest : left ≡ passes test (first + 1) k = cc in
    let from : first + 1 ≡ n + 1 = omega arith in
    let count : k ≡ 65536 - (n + 1) = omega arith in
    rest ∙ ap₂ (passes test) from count)
    (λ (out : test first ≡ false). rest_in test k (first + 1) n left (omega arith) (is ∙ skip_one test first k out))
    (cases_Bool (test first))

-- after the first of them are those above it
pub passing-rest : (test : ℕ → Bool) (first n : ℕ) (left : List ℕ) → n ∷ left ≡ passing first 65536 test → left ≡ passing (n + 1) 65536 test
unfolding passing
passing-rest test first n left is =
    ⊎_elim
    (λ (low : first < 65536). rest_in test (65536 - first) first n left (omega arith) is)
    (λ (past : 65536 ≤ first).
    let none : 65536 - first ≡ 0 = omega arith in
    let empty : n ∷ left ≡ [] = is ∙ ap (passes test first) none in
    absurd (cc))
    (cases_lt first 65536)

pub members-rest : (set : Numbers) (first n : ℕ) (left : List ℕ) → n ∷ left ≡ members_from first set → left ≡ members_from (n + 1) set
unfolding members_from passing
members-rest set first n left is = passing-rest (has set) first n left is

-- ---- A list beside those that are left

module _ (left : List ℕ) (next : Option ℕ) (after : List ℕ) where
  abbrev Steps : Type 0
  Steps = YieldsFirst (λ (ns : List ℕ). ns) left next after

  -- the list has another number next
  pub next_differs : Steps → (done rest : List ℕ) (n : ℕ) → option_eq nat_eq next (Some n) ≡ false → done ++ n ∷ rest ≡ done ++ left → ⊥
  next_differs step [] rest n other same = by next step other
    where
      by : (o : Option ℕ) → YieldsFirst (λ (ns : List ℕ). ns) left o after → option_eq nat_eq o (Some n) ≡ false → ⊥
      by None ends out = let none = ends.0 in absurd (cc)
      by (Some m) more out = let equal : m ≡ n = cc in let yes = eq-eqb m n equal in absurd (cc)
  next_differs step (d ∷ done) rest n other same =
      let less : done ++ n ∷ rest ≡ done ++ left = cc in
      next_differs step done rest n other less

  -- the list is that of all where none is left
  pub none_left : Steps → (done all : List ℕ) (ends : Bool) → is_some next ≡ not ends → done ++ left ≡ all → (ends ≡ true) ↔ (done ≡ all)
  none_left step done all ends e whole = by next step e
    where
      by : (o : Option ℕ) → YieldsFirst (λ (ns : List ℕ). ns) left o after → is_some o ≡ not ends → (ends ≡ true) ↔ (done ≡ all)
      by None none is = (λ h. sym (append-nil done) ∙ ap (λ ns. done ++ ns) (sym none.0) ∙ whole, λ same. not-false ends (sym is))
      by (Some m) more is = (λ h. let out = not-true ends (sym is) in absurd (cc), λ same. let longer = ap length (same ∙ sym whole ∙ ap (λ ns. done ++ ns) more) in absurd (omega (arith, length-append done (m ∷ after))))
