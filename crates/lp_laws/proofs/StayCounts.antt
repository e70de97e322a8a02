-- How many stays are mixed.
use Rattle.std.proofs.Common.{◌≡◌, Bool, false, List, [], ◌∷◌, length, All, filter, flat_map, count_by, IsTrue, refl, sym, ap, ◌∙◌, subst}
use Rattle.std.specs.List.{range_with_len}
use Rattle.std.proofs.lemmas.Bool.{cond-false}
use Rattle.std.proofs.lemmas.List.Elements.{All-append, All-head, All-tail, All-nil}
use Rattle.std.proofs.lemmas.List.Concat.{flat_map-cons}
use Rattle.std.proofs.lemmas.List.Sums.{length-filter}
use Rattle.lp_model.specs.Rules.{Rules, IsLawful}
use Rattle.lp_definitions.specs.declared.event.Event.{Event}
use Rattle.lp_definitions.specs.Leg.{Leg}
use Rattle.lp_definitions.specs.Sound.{IsSound, RunsOneVersion}
use Rattle.lp_definitions.specs.Stays.{moments, stays, is_mixed, all_stays, mixed_count}
use Rattle.lp_laws.proofs.Stays.{none_mixed}

All-flat_map : {A B : Type 0} (P : B → Type 0) (f : A → List B) (xs : List A) → ((x : A) → All P (f x)) → All P (flat_map f xs)
All-flat_map P f [] each = All-nil P
All-flat_map P f (x ∷ xs) each = subst (All P) (sym (flat_map-cons f x xs)) (All-append P (f x) (flat_map f xs) (each x) (All-flat_map P f xs each))

filter_none : {A : Type 0} (test : A → Bool) (xs : List A) → All (λ x. test x ≡ false) xs → filter test xs ≡ []
filter_none test [] none = refl
filter_none test (x ∷ xs) none = cond-false _ _ _ (All-head (λ y. test y ≡ false) x xs none) ∙ filter_none test xs (All-tail (λ y. test y ≡ false) x xs none)

count_by_none : {A : Type 0} (test : A → Bool) (xs : List A) → All (λ x. test x ≡ false) xs → count_by test xs ≡ 0
count_by_none test xs none = sym (length-filter test xs) ∙ ap length (filter_none test xs none)

module _ (model : Rules) (lawful : IsLawful model) (whole : IsTrue model.whole_call) (leg : Leg) (events : List Event) (sound : IsSound leg.opening) (one : RunsOneVersion leg.opening) where
  all_unmixed : All (λ stay. is_mixed stay ≡ false) (all_stays model leg events)
  unfolding all_stays
  all_unmixed =
      All-flat_map (λ stay. is_mixed stay ≡ false) (λ t. flat_map (λ patch. stays (moments model patch t leg events)) (range_with_len 1 (length leg.patches))) (range_with_len 1 leg.bounds.tasks) (λ t.
      All-flat_map (λ stay. is_mixed stay ≡ false) (λ patch. stays (moments model patch t leg events)) (range_with_len 1 (length leg.patches)) (λ patch. none_mixed model lawful whole patch t leg events sound one))

  pub no_mixed_stay : mixed_count model leg events ≡ 0
  no_mixed_stay = count_by_none is_mixed (all_stays model leg events) all_unmixed
