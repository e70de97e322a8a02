-- What a leg says of its first events doesn't depend on the later ones.
use Rattle.std.proofs.Common.{◌≡◌, ℕ, zero, suc, ◌<◌, ◌≤◌, not, ◌&&◌, List, [], ◌∷◌, ◌++◌, length, Some, nat_eq, if◌then◌else◌, slice_get, refl, ap, ap₂, ◌∙◌, arith, sym, length-append}
use mathlib.Core.Path.{fun_ext}
use Rattle.lp_model.specs.Rules.{Rules}
use Rattle.lp_definitions.specs.declared.event.Event.{Event}
use Rattle.lp_definitions.specs.Tasks.{outlines}
use Rattle.lp_definitions.specs.Leg.{Leg, accept, take_effect, tasks_after, each_live, some_live, check_by, if_used, after, accepted, check}
use Rattle.lp_definitions.specs.Schedule.{Schedule, has_come, first_check, level, waits, admits_each, allowed, complete, first_checks}
use Rattle.lp_definitions.specs.Run.{and_then}
use Rattle.lp_laws.proofs.First.{Agree, agree_next}

pub prefix_get : {A : Type 0} (xs ys : List A) (k : ℕ) → k < length xs → slice_get (xs ++ ys) k ≡ slice_get xs k
prefix_get [] ys k lt = absurd (omega arith)
prefix_get (x ∷ xs) ys zero lt = refl
prefix_get (x ∷ xs) ys (suc k) lt = prefix_get xs ys k (omega arith)

module _ (model : Rules) (leg : Leg) (event : Event) where
  abbrev longer : Leg
  longer = and_then leg event

  event_same : (k : ℕ) → k < length leg.events → slice_get longer.events k ≡ slice_get leg.events k
  event_same k lt = prefix_get leg.events (event ∷ []) k lt

  pub after_same : (k : ℕ) → k ≤ length leg.events → after model longer k ≡ after model leg k
  unfolding tasks_after
  after_same zero le = refl
  after_same (suc k) le =
      ap₂ (λ now o. take_effect model.child_group k (accept leg.bounds now o) now) (after_same k (omega arith)) (event_same k (omega arith))

  pub accepted_same : (k : ℕ) → k < length leg.events → accepted model longer k ≡ accepted model leg k
  accepted_same k lt = ap₂ (λ now o. accept leg.bounds now o) (after_same k (omega arith)) (event_same k lt)

  pub check_same : (k group : ℕ) → k < length leg.events → check model longer k group ≡ check model leg k group
  unfolding check
  check_same k group lt =
      ap₂ (λ now o. if_used model.uses (check_by leg.bounds (outlines now) o group)) (after_same (suc k) (omega arith)) (accepted_same k lt)

  module _ (s : Schedule) where
    pub waits_same : (k group : ℕ) → k ≤ length leg.events → waits model longer s k group ≡ waits model leg s k group
    unfolding waits
    waits_same k group le = ap (λ now. some_live leg.bounds now (λ t x. nat_eq x.group group && not (nat_eq (level leg s k x) leg.target))) (after_same k le)

    pub allowed_same : (k group : ℕ) → k < length leg.events → allowed model longer s k group ≡ allowed model leg s k group
    unfolding allowed
    allowed_same k group lt = ap₂ (λ o now. admits_each model leg s o now group) (check_same k group lt) (after_same (suc k) (omega arith))

    pub complete_same : (k : ℕ) → k ≤ length leg.events → complete model longer s k ≡ complete model leg s k
    unfolding complete
    complete_same k le = ap (λ now. each_live leg.bounds now (λ t x. nat_eq (level leg s k x) leg.target)) (after_same k le)

  pub first_checks_same : (k : ℕ) → k ≤ length leg.events → first_checks model longer k ≡ first_checks model leg k
  unfolding first_checks
  first_checks_same zero le = refl
  first_checks_same (suc k) le =
      let before = first_checks_same k (omega arith) in
      fun_ext (λ group. ap₂ (λ switches s. if switches then Some (suc k) else s group) (ap₂ (λ w a. w && a) (waits_same (first_checks model longer k) k group (omega arith) ∙ ap (λ s. waits model leg s k group) before) (allowed_same (first_checks model longer k) k group (omega arith) ∙ ap (λ s. allowed model leg s k group) before)) before)

  -- a later event switches nobody earlier
  pub past_same : (group k : ℕ) → k ≤ length leg.events → has_come (first_check model longer group) k ≡ has_come (first_check model leg group) k
  unfolding Agree
  past_same group k le =
      let n = length leg.events in
      let len : length longer.events ≡ suc n = omega (arith, length-append leg.events (event ∷ [])) in
      ap (λ m. has_come (first_checks model longer m group) k) len ∙ (sym (agree_next model longer n group k le) ∙ ap (λ s. has_come (s group) k) (first_checks_same n (omega arith)))
