-- Whom a scan's verdicts admit.
use Rattle.std.proofs.Common.{◌≡◌, ℕ, Bool, true, false, ◌||◌, List, [], ◌∷◌, Option, Some, None, is_none, if◌then◌else◌, nat_eq, refl, sym, ap, subst, ◌∙◌}
use Rattle.std.proofs.lemmas.Bool.{and_parts, eqb-true, or_left, or_right}
use Rattle.std.specs.List.{filter, list_any}
use Rattle.lp_model.specs.Rules.{Rules}
use Rattle.lp_model.specs.declared.check.CheckKind.{CheckKind}
use Rattle.lp_model.specs.declared.check.CheckKind.TheVariants as kind
use Rattle.lp_model.specs.declared.verdict.Verdict.{Verdict}
use Rattle.lp_definitions.specs.Tasks.{Live}
use Rattle.lp_definitions.specs.Leg.{LegTask, State}
use Rattle.lp_machine.specs.Machine.{view_of}
use Rattle.lp_transition.specs.Scan.{is_scan_kind, scan_event, verdicts_of, AreEnough}
use Rattle.lp_transition.specs.Weigh.{AreVerdictsFor}
use Rattle.lp_transition.specs.inside.ScanSteps.{admits_task}
use Rattle.lp_transition.proofs.ScanLists.{verdict-is}

any-step : {X : Type 0} (p q : X → Bool) (x : X) (xs : List X) → (list_any p (filter q xs) ≡ true → list_any p xs ≡ true) → list_any p (filter q (x ∷ xs)) ≡ true → list_any p (x ∷ xs) ≡ true
any-step {X} p q x xs more h = by (q x) refl
  where
    first : (b : Bool) → p x ≡ b → list_any p (x ∷ filter q xs) ≡ true → list_any p (x ∷ xs) ≡ true
    first true passes kept = or_left (p x) (list_any p xs) passes
    first false fails kept = or_right (p x) (list_any p xs) (more (sym (ap (λ (b : Bool). b || list_any p (filter q xs)) fails) ∙ kept))

    by : (b : Bool) → q x ≡ b → list_any p (x ∷ xs) ≡ true
    by true e = first (p x) refl (sym (ap (λ (b : Bool). list_any p (if b then x ∷ filter q xs else filter q xs)) e) ∙ h)
    by false e = or_right (p x) (list_any p xs) (more (sym (ap (λ (b : Bool). list_any p (if b then x ∷ filter q xs else filter q xs)) e) ∙ h))

-- what passes among some elements passes among all
pub any-filter : {X : Type 0} (p q : X → Bool) (xs : List X) → list_any p (filter q xs) ≡ true → list_any p xs ≡ true
any-filter p q [] h = h
any-filter p q (x ∷ xs) h = any-step p q x xs (λ later. any-filter p q xs later) h

none_from : {A : Type 0} (o : Option A) → is_none o ≡ true → o ≡ None
none_from None h = refl
none_from (Some a) h = absurd (cc)

module _ (model : Rules) (on : CheckKind) (s : State) where
  -- a task that a check of all that wait admits
  free-is : (t : ℕ) (x : LegTask) → s.tasks t ≡ Live x → list_any (admits_task t) (verdicts_of model on s) ≡ true → model.blame on (view_of t x) s.aim ≡ None
  free-is t x live told =
      let j = verdict-is model on s (admits_task t) told in
      let both = and_parts (is_none (model.blame on (view_of j.number j.task) s.aim)) (nat_eq t j.number) j.passed in
      let same : t ≡ j.number = eqb-true t j.number both.1 in
      let one : Live x ≡ Live j.task = sym live ∙ (ap s.tasks same ∙ j.live) in
      let life : j.task ≡ x = cc in
      subst (λ n. model.blame on (view_of n x) s.aim ≡ None) (sym same)
      (subst (λ y. model.blame on (view_of j.number y) s.aim ≡ None) life (none_from (model.blame on (view_of j.number j.task) s.aim) both.0))

  -- a verdict without blame is what a check finds of its task
  pub admitted-is : (vs : List Verdict) → AreEnough model on s vs → (t : ℕ) (x : LegTask) → s.tasks t ≡ Live x → list_any (admits_task t) vs ≡ true → model.blame on (view_of t x) s.aim ≡ None
  admitted-is vs enough t x live told =
      free-is t x live (any-filter (admits_task t) _ (verdicts_of model on s) (subst (λ ws. list_any (admits_task t) ws ≡ true) enough.found told))

-- the verdicts of a scan are enough
pub enough_for : (model : Rules) (s : State) (on : CheckKind) (vs : List Verdict) → is_scan_kind on ≡ true → AreVerdictsFor model s (scan_event on) vs → AreEnough model on s vs
enough_for model s kind.Walk vs scan enough = enough
enough_for model s kind.Stop vs scan enough = enough
enough_for model s kind.KernelExit vs scan enough = absurd (cc)
enough_for model s kind.IdlePoint vs scan enough = absurd (cc)
enough_for model s kind.Resched vs scan enough = absurd (cc)
