-- A copy of the engine.
use Rattle.std.proofs.Common.{◌≡◌, ℕ, true, [], sym, ap, ap₂, ◌∙◌, add-zero}
use Rattle.std.proofs.lemmas.Bool.{cond-true}
use Rattle.lp_model.specs.Rules.{Rules}
use Rattle.lp_definitions.specs.declared.event.Event.{Event}
use Rattle.lp_definitions.specs.Tasks.{Fate}
use Rattle.lp_definitions.specs.Leg.{LegTask, State, Leg}
use Rattle.lp_definitions.specs.Run.{plus, first_leg, leg_of, next_leg, opens, opened, and_then}
use Rattle.lp_machine.specs.Machine.{state_of}
use Rattle.lp_machine.specs.Steps.{OpensLegs}
use Rattle.lp_machine_laws.proofs.Steps.{open_shown}
use Rattle.lp_machine_laws.proofs.Runs.{leg_after-plus}

-- ---- Openings of legs

module _ (model : Rules) where
  -- a leg without events is where it opened
  pub open_state : (o : State) → state_of model (record { opening = o; events = [] }) ≡ o
  open_state o =
      ap₂ {A = ℕ} {B = ℕ → Fate LegTask} {C = State} (λ number tasks. record { number = number; bounds = o.bounds; from = o.from; aim = o.aim; tasks = tasks }) (add-zero o.number) (open_shown model o)

  opened_next : (leg : Leg) (event : Event) → opens model leg event ≡ true → next_leg model leg event ≡ opened model leg event
  unfolding next_leg
  opened_next leg event is = cond-true (opens model leg event) (opened model leg event) (and_then leg event) is

  -- after an accepted control event a run stands at the opening of the leg that the event opens
  pub opens_legs : (now : State) → OpensLegs model now
  opens_legs now run event is stands =
      let leg : leg_of model (plus run event) ≡ opened model (leg_of model run) event = leg_after-plus model (first_leg model run) run.events event ∙ opened_next (leg_of model run) event is in
      stands.there ∙ ap (state_of model) leg ∙ open_state (opened model (leg_of model run) event).opening ∙ ap (λ l. l.opening) (sym leg)
