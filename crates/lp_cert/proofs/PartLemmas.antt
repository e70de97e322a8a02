-- Parts of lists of reasons.
use Rattle.std.proofs.Common.{◌≡◌, ℕ, zero, suc, ◌+◌, ◌-◌, ◌<◌, List, [], ◌∷◌, ◌++◌, length, get_or, set, take, drop, Option, Some, None, option_to_list, take-append-drop, sym, ap, ap₂, subst, ◌∙◌, arith}
use Rattle.std.specs.List.{AllByRecursion, slice_get}
use Rattle.std.proofs.lemmas.List.{append-nil, append_assoc, drop-drop, get_or-set_other, get_or-set_same, take_all}
use borrow.Author.Count.{below_more}
use Rattle.lp_cert.specs.declared.reason.Reason.{Reason}
use Rattle.lp_cert.specs.inside.Chains.{IsTail}
use Rattle.lp_cert.specs.inside.Parts.{AreWithout, IsWithout}

pub all_prefix : {A : Type 0} (P : A → Type 0) (xs ys : List A) → AllByRecursion P (xs ++ ys) → AllByRecursion P xs
all_prefix P [] ys all = tt
all_prefix P (x ∷ xs) ys all = (all.0, all_prefix P xs ys all.1)

pub all_last : {A : Type 0} (P : A → Type 0) (xs : List A) (x : A) → AllByRecursion P (xs ++ x ∷ []) → P x
all_last P [] x all = all.0
all_last P (y ∷ ys) x all = all_last P ys x all.1

pub all_dropped : {A : Type 0} (P : A → Type 0) (n : ℕ) (xs : List A) → AllByRecursion P xs → AllByRecursion P (drop n xs)
all_dropped P zero xs all = all
all_dropped P (suc n) [] all = tt
all_dropped P (suc n) (x ∷ xs) all = all_dropped P n xs all.1

-- those that another list, which this one ends with, hasn't, and that list
pub before_tail : (ongoing this tail : List Reason) (left : ℕ) → IsTail tail this → left ≡ length this - length tail → (ongoing ++ take left this) ++ tail ≡ ongoing ++ this
before_tail ongoing this tail left is so =
    append_assoc ongoing (take left this) tail
    ∙ ap (λ rs. ongoing ++ rs) (ap (λ rs. take left this ++ rs) (is.rest ∙ ap (λ n. drop n this) (sym so)) ∙ take-append-drop left this)

-- the first ones are some, and those after them
take_both : {A : Type 0} (n m : ℕ) (xs : List A) → take (n + m) xs ≡ take n xs ++ take m (drop n xs)
take_both zero m xs = (let e : 0 + m ≡ m = omega arith in ap (λ k. take k xs) e)
take_both (suc n) m [] = take_all (suc n + m) [] (omega arith) ∙ sym (take_all m [] (omega arith))
take_both (suc n) m (x ∷ xs) =
    let e : suc n + m ≡ suc (n + m) = omega arith in
    ap (λ k. take k (x ∷ xs)) e ∙ ap (λ ys. x ∷ ys) (take_both n m xs)

-- the first of a list that isn't empty
first_of : {A : Type 0} (xs : List A) (x : A) → slice_get xs 0 ≡ Some x → take 1 xs ≡ x ∷ []
first_of [] x e = absurd (cc)
first_of (y ∷ ys) x e = ap (λ z. z ∷ []) (cc)

-- so many reasons are all but the last of them, and that
last_of : (this rest : List Reason) (count : ℕ) (reason : Reason) → 0 < count → rest ≡ drop (count - 1) this → slice_get rest 0 ≡ Some reason
    → take count this ≡ take (count - 1) this ++ reason ∷ []
last_of this rest count reason some is first =
    let e : count ≡ count - 1 + 1 = omega arith in
    ap (λ n. take n this) e
    ∙ (take_both (count - 1) 1 this ∙ ap (λ rs. take (count - 1) this ++ rs) (ap (take 1) (sym is) ∙ first_of rest reason first))

-- the last one is taken off
pub taken_off : (ongoing this rest : List Reason) (count : ℕ) (reason : Reason) → 0 < count → rest ≡ drop (count - 1) this → slice_get rest 0 ≡ Some reason
    → ongoing ++ take count this ≡ (ongoing ++ take (count - 1) this) ++ reason ∷ []
taken_off ongoing this rest count reason some is first =
    ap (λ rs. ongoing ++ rs) (last_of this rest count reason some is first) ∙ sym (append_assoc ongoing (take (count - 1) this) (reason ∷ []))

module _ (ongoing left taken : Option Reason) (this : List Reason) (count : ℕ) (none : count ≡ 0) (is : taken ≡ ongoing) (after : left ≡ None) where
  -- none is left of the list, and then what continues is taken
  pub none_taken : option_to_list ongoing ++ take count this ≡ (option_to_list left ++ take count this) ++ option_to_list taken
  none_taken =
      ap (λ n. option_to_list ongoing ++ take n this) none
      ∙ (append-nil (option_to_list ongoing)
      ∙ sym (ap (λ t. (option_to_list left ++ take count this) ++ option_to_list t) is
      ∙ ap₂ (λ (l : Option Reason) n. (option_to_list l ++ take n this) ++ option_to_list ongoing) after none))

-- ---- Places of a list without some of its newest reasons

module _ (lists : List (List Reason)) (list first place : ℕ) where
  -- without one more
  pub next_without : (at older : ℕ) → IsWithout lists list (first + place) at → older < length lists → get_or lists older [] ≡ drop 1 (get_or lists at []) → IsWithout lists list (first + (place + 1)) older
  next_without at older is known on =
      let more : first + place + 1 ≡ first + (place + 1) = omega arith in
      record {
        known = known;
        rest = on ∙ (ap (drop 1) is.rest ∙ (drop-drop 1 (first + place) (get_or lists list []) ∙ ap (λ n. drop n (get_or lists list [])) more));
      }

  -- one place more is found
  pub one_found : (run : List ℕ) (at : ℕ) → place < length run → ((k : ℕ) → k < place → IsWithout lists list (first + k) (get_or run k 0)) → IsWithout lists list (first + place) at
      → (k : ℕ) → k < place + 1 → IsWithout lists list (first + k) (get_or (set run place at) k 0)
  one_found run at wide each here =
      below_more (λ k. IsWithout lists list (first + k) (get_or (set run place at) k 0)) place
      (λ k low. subst (λ p. IsWithout lists list (first + k) p) (sym (get_or-set_other run place k at 0 (λ (e : k ≡ place). absurd (omega arith)))) (each k low))
      (subst (λ p. IsWithout lists list (first + place) p) (sym (get_or-set_same run place at 0 wide)) here)

module _ (lists : List (List Reason)) (list first left : ℕ) (places : List ℕ) (found : AreWithout lists list first left places) (some : first < left) where
  -- the last place found is that of the oldest reason that is left
  pub oldest_found : IsWithout lists list (left - 1) (get_or places (left - 1 - first) 0)
  oldest_found =
      let at : first + (left - 1 - first) ≡ left - 1 = omega arith in
      subst (λ n. IsWithout lists list n (get_or places (left - 1 - first) 0)) at (found.each (left - 1 - first) (omega arith))

  -- it is among sixteen
  pub place_below : left - 1 - first < 16
  place_below = omega (arith, found.few)
