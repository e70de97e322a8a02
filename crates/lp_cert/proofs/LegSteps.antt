-- What an event makes of a leg that is over, and of one that goes on.
use Rattle.std.proofs.Common.{◌≡◌, ℕ, Bool, true, false, ◌||◌, Option, Some, None, IsSome, is_some, refl, sym, subst, ◌∙◌}
use Rattle.std.proofs.lemmas.Bool.{false≢true}
use Rattle.lp_model.specs.Rules.{Rules}
use Rattle.lp_machine.specs.Table.{Engine}
use Rattle.lp_transition.specs.LastScan.{used_scan}
use Rattle.lp_transition.specs.Weigh.{Weighed, refusal_in}
use Rattle.lp_cert.specs.declared.open_leg.OpenLeg.{OpenLeg}
use Rattle.lp_cert.specs.Waiters.{WaitingGroups}
use Rattle.lp_cert.specs.inside.Invariant.{IsCompletedAt, IsStepped}
use Rattle.lp_cert.specs.inside.StepLines.{stepped_lines}
use Rattle.lp_cert.specs.inside.Waiters.{AreStanding, HasFewGroups, lines_at}

none_some : {A : Type 0} (a : A) → None ≡ Some a → ⊥
none_some a e = absurd (cc)

going : {A : Type 0} (o : Option A) (b : Bool) → (is_some o || b) ≡ true → o ≡ None → b ≡ false → ⊥
going None b over unended unfinished = false≢true (sym unfinished ∙ over)
going (Some done) b over unended unfinished = absurd (cc)

pub goes : {A : Type 0} (o : Option A) (b : Bool) → (is_some o || b) ≡ false → (o ≡ None) × (b ≡ false)
goes None b e = (refl, e)
goes (Some done) b e = absurd (cc)

module _ (model : Rules) (e : Engine) (step : Weighed) (number : ℕ) (old new : OpenLeg) (before : WaitingGroups) (completed : Bool) (replied : completed ≡ step.reply.completed) where
  pub over_stepped : (after : WaitingGroups) → (is_some old.completed || completed) ≡ true → ((at : ℕ) → old.completed ≡ Some at → (new ≡ old) × (after ≡ before))
      → (old.completed ≡ None → completed ≡ true → IsCompletedAt number old new before after) → IsStepped model e step number old new before after
  over_stepped after over complete completes = record {
    complete = complete;
    completes = λ unended finished. completes unended (replied ∙ finished);
    continues = λ unended unfinished. absurd (going old.completed completed over unended (replied ∙ unfinished));
  }

  -- what goes on with the leg is noted of the groups as they waited before
  pub gone_stepped : (mid after : WaitingGroups) → (is_some old.completed || completed) ≡ false → (new ≡ old) × (mid ≡ before) → ((group : ℕ) → lines_at after group ≡ stepped_lines model e step mid group)
      → (refusal_in step.reply.what ≡ None → HasFewGroups e step.event) → (IsSome (used_scan model step.event) → refusal_in step.reply.what ≡ None → AreStanding mid)
      → IsStepped model e step number old new before after
  gone_stepped mid after goes_on same lines few stood =
      let still = goes old.completed completed goes_on in
      record {
        complete = λ at ends. absurd (none_some at (sym still.0 ∙ ends));
        completes = λ unended finished. absurd (false≢true (sym still.1 ∙ (replied ∙ finished)));
        continues = λ unended unfinished. (
          same.0,
          subst (λ w. (group : ℕ) → lines_at after group ≡ stepped_lines model e step w group) same.1 lines,
          few,
          subst (λ w. IsSome (used_scan model step.event) → refusal_in step.reply.what ≡ None → AreStanding w) same.1 stood,
        );
      }
