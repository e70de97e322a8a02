-- Stays that mix no sides, as facts on lists.
use Rattle.std.proofs.Common.{◌≡◌, Bool, true, false, not, List, [], ◌∷◌, ◌++◌, All, refl, sym, ap, subst}
use Rattle.std.specs.List.{list_any, AllByRecursion}
use Rattle.std.proofs.lemmas.Bool.{and_left, and_right, or_from}
use Rattle.std.proofs.lemmas.List.Elements.{All-append, All-head, All-tail, All-cons, All-nil}
use Rattle.lp_definitions.specs.Stays.{join_first, stays, is_mixed}

abbrev pub Are : Bool → List Bool → Type 0
Are b sides = All (λ s. s ≡ b) sides

abbrev pub IsPure : List Bool → Type 0
IsPure stay = (b : Bool) × Are b stay

-- the next moment's calls are on the same side, if there are any on both
abbrev pub MeetsNext : Bool → List Bool → List (List Bool) → Type 0
MeetsNext b now [] = Unit {0}
MeetsNext b [] (next ∷ after) = Unit {0}
MeetsNext b (s ∷ now) ([] ∷ after) = Unit {0}
MeetsNext b (s ∷ now) ((n ∷ next) ∷ after) = n ≡ b

abbrev pub Linked : List (List Bool) → Type 0
Linked [] = Unit {0}
Linked (now ∷ after) = ((b : Bool) × Are b now × MeetsNext b now after) × Linked after

-- the first stay is on the side of the first moment
abbrev FirstIs : Bool → List (List Bool) → Type 0
FirstIs b [] = Unit {0}
FirstIs b (stay ∷ stays) = Are b stay

abbrev BeginsWith : List (List Bool) → List (List Bool) → Type 0
BeginsWith [] found = Unit {0}
BeginsWith ([] ∷ after) found = Unit {0}
BeginsWith ((s ∷ now) ∷ after) found = FirstIs s found

are_head : (b s : Bool) (sides : List Bool) → Are b (s ∷ sides) → s ≡ b
are_head b s sides h = All-head (λ x. x ≡ b) s sides h

joined : (s b : Bool) (now : List Bool) (found : List (List Bool)) → s ≡ b → Are b (s ∷ now) → AllByRecursion IsPure found → FirstIs b found → AllByRecursion IsPure (join_first (s ∷ now) found) × FirstIs s (join_first (s ∷ now) found)
joined s b now [] e h pure first = (((b, h), tt), subst (λ c. Are c (s ∷ now)) (sym e) h)
joined s b now (stay ∷ found) e h pure first =
    let both = All-append (λ x. x ≡ b) (s ∷ now) stay h first in
    (((b, both), pure.1), subst (λ c. Are c ((s ∷ now) ++ stay)) (sym e) both)

pub stays_pure : (moments : List (List Bool)) → Linked moments → AllByRecursion IsPure (stays moments) × BeginsWith moments (stays moments)
unfolding stays
stays_pure [] h = (tt, tt)
stays_pure ([] ∷ after) h = ((stays_pure after h.1).0, tt)
stays_pure ((s ∷ now) ∷ []) h =
    let e = are_head h.0.0 s now h.0.1 in (((h.0.0, h.0.1), tt), subst (λ c. Are c (s ∷ now)) (sym e) h.0.1)
stays_pure ((s ∷ now) ∷ ([] ∷ after)) h =
    let e = are_head h.0.0 s now h.0.1 in (((h.0.0, h.0.1), (stays_pure ([] ∷ after) h.1).0), subst (λ c. Are c (s ∷ now)) (sym e) h.0.1)
stays_pure ((s ∷ now) ∷ ((n ∷ next) ∷ after)) h =
    let rest = stays_pure ((n ∷ next) ∷ after) h.1 in
    joined s h.0.0 now (stays ((n ∷ next) ∷ after)) (are_head h.0.0 s now h.0.1) h.0.1 rest.0 (subst (λ c. FirstIs c (stays ((n ∷ next) ∷ after))) h.0.2 rest.1)

none_true : (stay : List Bool) → Are false stay → list_any (λ side. side) stay ≡ false
none_true [] h = refl
none_true (s ∷ stay) h = or_from _ _ (All-head (λ x. x ≡ false) s stay h) (none_true stay (All-tail (λ x. x ≡ false) s stay h))

none_false : (stay : List Bool) → Are true stay → list_any not stay ≡ false
none_false [] h = refl
none_false (s ∷ stay) h = or_from _ _ (ap not (All-head (λ x. x ≡ true) s stay h)) (none_false stay (All-tail (λ x. x ≡ true) s stay h))

pub pure_unmixed : (stay : List Bool) (b : Bool) → Are b stay → is_mixed stay ≡ false
pure_unmixed stay true h = and_right _ _ (none_false stay h)
pure_unmixed stay false h = and_left _ _ (none_true stay h)

pub all_unmixed : (found : List (List Bool)) → AllByRecursion IsPure found → All (λ stay. is_mixed stay ≡ false) found
all_unmixed [] h = All-nil (λ stay. is_mixed stay ≡ false)
all_unmixed (stay ∷ found) h = All-cons (λ s. is_mixed s ≡ false) stay found (pure_unmixed stay h.0.0 h.0.1) (all_unmixed found h.1)
