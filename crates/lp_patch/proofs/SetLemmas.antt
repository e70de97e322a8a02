-- The symbols of a patch, one after another.
use Rattle.std.proofs.Common.{◌≡◌, ℕ, zero, suc, ◌+◌, ◌<◌, Bool, true, false, List, [], ◌∷◌, ◌++◌, length, get_or, set, take, drop, nat_le, if◌then◌else◌, ◌||◌, None, Some, ◌==◌, refl, sym, ap, ◌∙◌, add-one, drop-cons, arith}
use Rattle.std.proofs.Math.Seq.{take-suc}
use Rattle.std.specs.List.{list_any}
use Rattle.std.proofs.lemmas.Grind.{common_steps, elements}
use Rattle.std.proofs.lemmas.Bool.Decides.{nat_tests}
use Rattle.std.proofs.lemmas.List.Folds.{list_any-append}
use Rattle.lp_symbols.specs.declared.sym_id.SymId.{SymId}
use Rattle.lp_patch.specs.declared.fault.PatchFault.TheVariants.{Unknown, Doubled}
use Rattle.lp_patch.specs.Patches.{Patch, has, first_fault}

-- the symbol at a place, after those in front of it
pub first_fault_at : (count : ℕ) (ids : List SymId) (i : ℕ) (d : SymId) → i < length ids → first_fault count (take i ids) (drop i ids) ≡ (if nat_le count (get_or ids i d).0 then Some (Unknown (get_or ids i d)) else if list_any (λ s. s.0 == (get_or ids i d).0) (take i ids) then Some (Doubled (get_or ids i d)) else first_fault count (take (i + 1) ids) (drop (i + 1) ids))
first_fault_at count ids i d h = rw (add-one, drop-cons ids i d h, take-suc ids i d h) refl

-- the first symbol is known, and the others have no fault
first_fault-cons : (count : ℕ) (seen : List SymId) (id : SymId) (ids : List SymId) → first_fault count seen (id ∷ ids) ≡ None → (id.0 < count) × (first_fault count (seen ++ id ∷ []) ids ≡ None)
first_fault-cons count seen id ids free = by (nat_le count id.0) refl (list_any (λ s. s.0 == id.0) seen) refl
  where
    by : (b : Bool) → nat_le count id.0 ≡ b → (d : Bool) → list_any (λ s. s.0 == id.0) seen ≡ d → (id.0 < count) × (first_fault count (seen ++ id ∷ []) ids ≡ None)
    by true e d f = absurd (let bad = rw e at free in cc)
    by false e true f = absurd (let bad = rw (e, f) at free in cc)
    by false e false f = (grind (arith, nat_tests, e), rw (e, f) at free)

-- where there is no fault, each symbol is known
pub known_without_fault : (count : ℕ) (seen ids : List SymId) (i : ℕ) (x : SymId) → first_fault count seen ids ≡ None → i < length ids → (get_or ids i x).0 < count
known_without_fault count seen [] i x free h = absurd (omega arith)
known_without_fault count seen (id ∷ ids) zero x free h = (first_fault-cons count seen id ids free).0
known_without_fault count seen (id ∷ ids) (suc i) x free h = known_without_fault count (seen ++ id ∷ []) ids i x (first_fault-cons count seen id ids free).1 (omega arith)

-- a patch that gets one more function
pub has-set : (members : Patch) (id q : ℕ) → id < length members → has (set members id true) q ≡ (id == q || has members q)
has-set members id q h = grind (arith, common_steps, elements)

-- a patch has one more of the symbols
pub has-more : (members : Patch) (ids : List SymId) (i : ℕ) (d : SymId) (q : ℕ) → i < length ids → (get_or ids i d).0 < length members → has members q ≡ list_any (λ s. s.0 == q) (take i ids) → has (set members (get_or ids i d).0 true) q ≡ list_any (λ s. s.0 == q) (take (i + 1) ids)
has-more members ids i d q h l same =
    let id = get_or ids i d in
    has-set members id.0 q l ∙ ap (λ b. id.0 == q || b) same
    ∙ sym (rw (add-one, take-suc ids i d h, list_any-append (λ s. s.0 == q) (take i ids) (id ∷ [])) (swapped (list_any (λ s. s.0 == q) (take i ids)) (id.0 == q)))
  where
    swapped : (a b : Bool) → (a || (b || false)) ≡ (b || a)
    swapped true true = refl
    swapped true false = refl
    swapped false true = refl
    swapped false false = refl
