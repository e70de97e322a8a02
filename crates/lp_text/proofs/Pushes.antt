-- Lists with one element more at the end.
use Rattle.std.proofs.Common.{◌≡◌, ◌<◌, ◌≤◌, ◌+◌, ℕ, zero, suc, Bool, true, false, List, [], ◌∷◌, ◌++◌, length, get_or, take, Option, None, Some, cond, refl, sym, ap, ◌∙◌, arith, append_assoc}
use Rattle.std.specs.Prelude.{nat_le, nat_lt, ◌==◌, ◌||◌}
use Rattle.std.specs.List.{AllByRecursion, IsDistinct, list_any}
use Rattle.std.specs.Str.{bytes_eq}
use Rattle.std.proofs.lemmas.Bool.{leb-true, ltb-true, ltb-false, eqb-true}
use Rattle.std.proofs.lemmas.Bool.Decides.{Decides-eqb, same_from_decides}
use Rattle.std.proofs.lemmas.Slice.Eq.{bytes_eq-Decides}
use Rattle.std.proofs.lemmas.List.{length-append}
use Rattle.lp_symbols.specs.declared.sym_id.SymId.{SymId}
use Rattle.lp_patch.specs.declared.fault.PatchFault.TheVariants as patch
use Rattle.lp_patch.specs.Patches.{first_fault, patch_refusal}

-- ---- Tests

pub not_less : (m n : ℕ) (b : Bool) → nat_lt m n ≡ b → n ≤ m → b ≡ false
not_less m n false e h = refl
not_less m n true e h = let below : m < n = ltb-true m n e in absurd (omega arith)

pub not_at_most : (m n : ℕ) (b : Bool) → nat_le m n ≡ b → n < m → b ≡ false
not_at_most m n false e h = refl
not_at_most m n true e h = let below : m ≤ n = leb-true m n e in absurd (omega arith)

pub not_same : (m n : ℕ) (b : Bool) → (m == n) ≡ b → ¬ (m ≡ n) → b ≡ false
not_same m n false e h = refl
not_same m n true e h = absurd (h (eqb-true m n e))

pub differ : (m n : ℕ) → (m == n) ≡ false → ¬ (m ≡ n)
differ m n h e = absurd (cc (sym h ∙ (Decides-eqb m n).1 e))

pub or_parts : (x y : Bool) → (x || y) ≡ false → (x ≡ false) × (y ≡ false)
or_parts true y h = absurd (cc h)
or_parts false y h = (refl, h)

pub or_false : (x y : Bool) → x ≡ false → y ≡ false → (x || y) ≡ false
or_false true y h k = absurd (cc h)
or_false false y h k = k

pub none_if : {A : Type 0} (b : Bool) (x : A) (rest : Option A) → cond b (Some x) rest ≡ None → (b ≡ false) × (rest ≡ None)
none_if true x rest h = absurd (cc h)
none_if false x rest h = (refl, h)

pub empty_from : {A : Type 0} (xs : List A) → nat_lt 0 (length xs) ≡ false → xs ≡ []
empty_from [] h = refl
empty_from (x ∷ xs) h = absurd (omega (arith, ltb-false 0 (length (x ∷ xs)) h))

-- ---- What holds of each element

module _ {A : Type 0} (P : A → Type 0) where
  pub all_push : (xs : List A) (x : A) → AllByRecursion P xs → P x → AllByRecursion P (xs ++ x ∷ [])
  all_push [] x h p = (p, tt)
  all_push (y ∷ ys) x h p = (h.0, all_push ys x h.1 p)

  pub all_take : (n : ℕ) (xs : List A) → AllByRecursion P xs → AllByRecursion P (take n xs)
  all_take zero [] h = tt
  all_take zero (x ∷ xs) h = tt
  all_take (suc n) [] h = tt
  all_take (suc n) (x ∷ xs) h = (h.0, all_take n xs h.1)

  pub all_at : (xs : List A) (i : ℕ) (d : A) → AllByRecursion P xs → i < length xs → P (get_or xs i d)
  all_at [] i d h below = absurd (omega arith)
  all_at (x ∷ xs) zero d h below = h.0
  all_at (x ∷ xs) (suc i) d h below = all_at xs i d h.1 (omega arith)

module _ {A : Type 0} (eq : A → A → Bool) where
  pub distinct_push : (xs : List A) (x : A) → IsDistinct eq xs → list_any (λ y. eq y x) xs ≡ false → IsDistinct eq (xs ++ x ∷ [])
  unfolding IsDistinct
  distinct_push [] x h fresh = (tt, tt)
  distinct_push (y ∷ ys) x h fresh =
      let parts = or_parts (eq y x) (list_any (λ z. eq z x) ys) fresh in
      (all_push (λ z. eq y z ≡ false) ys x h.0 parts.0, distinct_push ys x h.1 parts.1)

pub same_either_way : (x y : List ℕ) → bytes_eq x y ≡ bytes_eq y x
same_either_way x y =
    let d = bytes_eq-Decides x y in
    let e = bytes_eq-Decides y x in
    same_from_decides (bytes_eq x y) (bytes_eq y x) d (λ h. sym (e.0 h), λ h. e.1 (sym h))

pub name_fresh : (xs : List (List ℕ)) (x : List ℕ) → list_any (bytes_eq x) xs ≡ false → list_any (λ y. bytes_eq y x) xs ≡ false
name_fresh [] x h = refl
name_fresh (y ∷ ys) x h =
    let parts = or_parts (bytes_eq x y) (list_any (bytes_eq x) ys) h in
    or_false (bytes_eq y x) (list_any (λ z. bytes_eq z x) ys) (same_either_way y x ∙ parts.0) (name_fresh ys x parts.1)

-- ---- The last of a list

module _ {A : Type 0} where
  pub last_back : (xs : List A) (n : ℕ) (d : A) → n + 1 ≡ length xs → take n xs ++ get_or xs n d ∷ [] ≡ xs
  last_back [] n d h = absurd (omega arith)
  last_back (x ∷ []) zero d h = refl
  last_back (x ∷ y ∷ ys) zero d h = absurd (omega arith)
  last_back (x ∷ xs) (suc n) d h = ap (λ r. x ∷ r) (last_back xs n d (omega arith))

-- ---- Patches

any_push : {A : Type 0} (test : A → Bool) (xs ys : List A) → list_any test (xs ++ ys) ≡ false → list_any test xs ≡ false
any_push test [] ys h = refl
any_push test (x ∷ xs) ys h =
    let parts = or_parts (test x) (list_any test (xs ++ ys)) h in
    or_false (test x) (list_any test xs) parts.0 (any_push test xs ys parts.1)

fault_push : (count : ℕ) (seen ids : List SymId) (func : SymId) → first_fault count seen ids ≡ None → func.0 < count → list_any (λ id. id.0 == func.0) (seen ++ ids) ≡ false → first_fault count seen (ids ++ func ∷ []) ≡ None
fault_push count seen [] func h known fresh =
    let there : list_any (λ id. id.0 == func.0) seen ≡ false = any_push (λ id. id.0 == func.0) seen [] fresh in
    rw (not_at_most count func.0 (nat_le count func.0) refl known, there) refl
fault_push count seen (id ∷ ids) func h known fresh =
    let a = none_if (nat_le count id.0) (patch.Unknown id) _ h in
    let b = none_if (list_any (λ s. s.0 == id.0) seen) (patch.Doubled id) _ a.1 in
    rw (a.0, b.0) (fault_push count (seen ++ id ∷ []) ids func b.1 known (ap (list_any (λ s. s.0 == func.0)) (append_assoc seen (id ∷ []) ids) ∙ fresh))

-- a patch's list is in order, or empty
plain : (count : ℕ) (had : List SymId) → (0 < length had → patch_refusal count had ≡ None) → (length had ≤ 256) × (first_fault count [] had ≡ None)
plain count [] h = (omega arith, refl)
plain count (id ∷ ids) h =
    let a = none_if (length (id ∷ ids) == 0) patch.Empty _ (h (omega arith)) in
    let b = none_if (nat_lt 256 (length (id ∷ ids))) patch.TooMany _ a.1 in
    (ltb-false 256 (length (id ∷ ids)) b.0, b.1)

-- a function more, of a patch that may have none yet
pub refusal_push : (count : ℕ) (had : List SymId) (func : SymId) → (0 < length had → patch_refusal count had ≡ None) → func.0 < count → list_any (λ id. id.0 == func.0) had ≡ false → ¬ (length had ≡ 256) → patch_refusal count (had ++ func ∷ []) ≡ None
refusal_push count had func h known fresh few =
    let now = plain count had h in
    let more = had ++ func ∷ [] in
    let long : length more ≡ length had + 1 = length-append had (func ∷ []) in
    let most : length had ≤ 256 = now.0 in
    let short : length more ≤ 256 = omega arith in
    let first : first_fault count [] more ≡ None = fault_push count [] had func now.1 known fresh in
    rw (not_same (length more) 0 (length more == 0) refl (λ e. omega arith), not_less 256 (length more) (nat_lt 256 (length more)) refl short, first) refl
