-- A leg with one more event.
use Rattle.std.proofs.Common.{◌≡◌, ℕ, suc, Bool, false, List, [], ◌∷◌, ◌++◌, length, Option, Some, slice_get, refl, ap, ap₂, ◌∙◌, arith}
use Rattle.std.proofs.lemmas.List.{append-nil}
use Rattle.lp_model.specs.Rules.{Rules}
use Rattle.lp_definitions.specs.declared.event.Event.{Event}
use Rattle.lp_definitions.specs.declared.event.Event.TheVariants.{Enable, Disable, Reverse}
use Rattle.lp_definitions.specs.Events.{is_control}
use Rattle.lp_definitions.specs.Tasks.{Tasks, outlines, first_of, tests, refusal}
use Rattle.lp_definitions.specs.Leg.{State, Leg, accept, take_effect, tasks_after, accepted, after, check_by, if_used, check}
use Rattle.lp_definitions.specs.Run.{and_then, control_tests, is_complete_now, refused_by}
use Rattle.lp_laws.proofs.Prefix.{after_same}

pub end_get : {A : Type 0} (xs : List A) (x : A) → slice_get (xs ++ x ∷ []) (length xs) ≡ Some x
end_get [] x = refl
end_get (y ∷ ys) x = end_get ys x

no_control_tests : (a : State) (settled : Bool) (event : Event) → is_control event ≡ false → control_tests a settled event ≡ []
no_control_tests a settled Enable e = absurd (cc)
no_control_tests a settled Disable e = absurd (cc)
no_control_tests a settled Reverse e = absurd (cc)
no_control_tests a settled _ e = refl

module _ (model : Rules) (leg : Leg) (event : Event) where
  abbrev k : ℕ
  k = length leg.events

  abbrev longer : Leg
  longer = and_then leg event

  abbrev now : Tasks
  now = after model leg k

  abbrev told_event : Option Event
  told_event = accept leg.bounds now (Some event)

  pub accepted_is : accepted model longer k ≡ told_event
  accepted_is = ap₂ (λ ts o. accept leg.bounds ts o) (after_same model leg event k (omega arith)) (end_get leg.events event)

  pub after_is : after model longer (suc k) ≡ take_effect model.child_group k told_event now
  unfolding tasks_after
  after_is = ap₂ (λ o ts. take_effect model.child_group k o ts) accepted_is (after_same model leg event k (omega arith))

  pub check_is : (group : ℕ) → check model longer k group ≡ if_used model.uses (check_by leg.bounds (outlines (after model longer (suc k))) told_event group)
  unfolding check
  check_is group = ap (λ o. if_used model.uses (check_by leg.bounds (outlines (after model longer (suc k))) o group)) accepted_is

  pub plain_refusal : is_control event ≡ false → refused_by model leg event ≡ refusal leg.bounds now event
  unfolding refused_by refusal
  plain_refusal e =
      ap (λ more. first_of (tests leg.bounds (outlines now) event ++ more)) (no_control_tests leg.opening (is_complete_now model leg) event e) ∙ ap first_of (append-nil (tests leg.bounds (outlines now) event))
