-- Patches from flat arrays, one after the other.
use Rattle.std.proofs.Common.{◌≡◌, ◌<◌, ◌≤◌, ◌+◌, ℕ, zero, suc, List, [], ◌∷◌, ◌++◌, length, take, drop, get_or, All, add-one, refl, sym, ap, ◌∙◌, subst, append_assoc, arith}
use Rattle.std.proofs.lemmas.List.{append-nil}
use Rattle.std.proofs.Math.ListN.{drop_of_length-le}
use Rattle.std.proofs.Math.Seq.{drop-cons}
use Rattle.lp_patch.specs.Patches.{Patches, ShareSymbols}
use Rattle.lp_c.specs.Arrays.{AreSets, HasMore, IsSet}

module _ (symbols : ℕ) (functions lengths : List ℕ) where
  -- with the sets so far, whatever sets of the rest follow make those of all
  abbrev pub Continues : ℕ → List ℕ → Patches → Type 0
  Continues i rest sets = (tail : Patches) → AreSets symbols rest (drop i lengths) tail → AreSets symbols functions lengths (sets ++ tail)

  pub continues_more : (i d : ℕ) (rest own others : List ℕ) (before after : Patches) → i < length lengths → own ≡ take (get_or lengths i d) rest → others ≡ drop (get_or lengths i d) rest
      → HasMore symbols own before after → Continues i rest before → Continues (i + 1) others after
  continues_more i d rest own others before after below front back more so_far tail are =
      let n = get_or lengths i d in
      let here : AreSets symbols rest (n ∷ drop (suc i) lengths) (more.patch ∷ tail) = (
        subst (λ fs. IsSet symbols fs more.patch) front more.set,
        subst (λ fs. AreSets symbols fs (drop (suc i) lengths) tail) back (subst (λ k. AreSets symbols others (drop k lengths) tail) (add-one i) are),
      ) in
      let all = so_far (more.patch ∷ tail) (subst (λ ls. AreSets symbols rest ls (more.patch ∷ tail)) (sym (drop-cons lengths i d below)) here) in
      subst (AreSets symbols functions lengths) (sym (append_assoc before (more.patch ∷ []) tail) ∙ ap (λ ps. ps ++ tail) (sym more.items)) all

  pub continues_last : (i : ℕ) (rest : List ℕ) (sets : Patches) → length lengths ≤ i → length rest ≡ 0 → Continues i rest sets → AreSets symbols functions lengths sets
  continues_last i (x ∷ rest) sets all none so_far = absurd (omega (arith, none))
  continues_last i [] sets all none so_far =
      subst (AreSets symbols functions lengths) (append-nil sets)
      (so_far [] (subst (λ ls. AreSets symbols [] ls []) (sym (drop_of_length-le lengths all)) refl))

-- they are over the same symbols
each_has : (symbols : ℕ) (functions lengths : List ℕ) (sets : Patches) → AreSets symbols functions lengths sets → All (λ patch. length patch ≡ symbols) sets
each_has symbols functions [] [] are k d below = absurd (omega (arith, below))
each_has symbols functions [] (patch ∷ sets) are k d below = absurd are
each_has symbols functions (n ∷ lengths) [] are k d below = absurd are
each_has symbols functions (n ∷ lengths) (patch ∷ sets) are zero d below = are.0.symbols_are
each_has symbols functions (n ∷ lengths) (patch ∷ sets) are (suc k) d below = each_has symbols (drop n functions) lengths sets are.1 k d (omega (arith, below))

pub share_symbols : (symbols : ℕ) (functions lengths : List ℕ) (sets : Patches) → AreSets symbols functions lengths sets → ShareSymbols sets
share_symbols symbols functions lengths sets are = (symbols, each_has symbols functions lengths sets are)
