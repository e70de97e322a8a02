-- Events that are neither scans nor control events are noted without verdicts.
use Rattle.std.proofs.Common.{◌≡◌, ◌<◌, ◌+◌, ℕ, false, ◌&&◌, [], Option, Some, None, is_none, refl, sym, ap, ◌∙◌}
use Rattle.std.specs.Option.{option_map}
use Rattle.lp_model.specs.Rules.{Rules, IsLawful}
use Rattle.lp_definitions.specs.declared.event.Event.{Event}
use Rattle.lp_definitions.specs.declared.reply.Reply.{Reply}
use Rattle.lp_definitions.specs.Events.{is_control, is_scan}
use Rattle.lp_definitions.specs.Leg.{State}
use Rattle.lp_definitions.specs.Run.{Run, leg_of, plus}
use Rattle.lp_machine.specs.Machine.{answer}
use Rattle.lp_machine.specs.Steps.{IsReply, StandsIn}
use Rattle.lp_machine.specs.Table.{Engine, IsWide, state_in}
use Rattle.lp_machine_laws.proofs.Steps.{does}
use Rattle.lp_transition.specs.LastScan.{IsLastScanAfter}
use Rattle.lp_transition.specs.Blames.{AreBlamesAfter, AreOfWaiting}
use Rattle.lp_transition.specs.Weigh.{IsWeighed, HasToldBlamesAfter, refusal_in}
use Rattle.lp_transition.proofs.Told.{plain_tells}
use Rattle.lp_transition.proofs.Weighing.{verdicts-none}
use Rattle.lp_cert.specs.declared.open_leg.OpenLeg.{OpenLeg}
use Rattle.lp_cert.specs.Ends.{Made, IsMadeWith, is_opening}
use Rattle.lp_cert.specs.Invariant.{open_end}
use Rattle.lp_cert.specs.inside.Invariant.{IsStepped, plain_step}
use Rattle.lp_cert.specs.Waiters.{WaitingGroups}
use Rattle.lp_cert.proofs.Noted.{none_made, present_sound, still_made}

-- the engine's blames after an event that is no scan
pub plain_blames : (model : Rules) (e : Engine) (event : Event) (new : Engine) → is_scan event ≡ false → AreBlamesAfter model e event [] new → HasToldBlamesAfter model e event new
plain_blames model e event new plain blames =
    record { by = record { verdicts = []; enough = verdicts-none model (state_in e) event plain; blames = blames }; told = plain_tells model e event [] plain }

-- an event that is no control event opens no leg
pub opens_none : (model : Rules) (e : Engine) (event : Event) → is_control event ≡ false → is_opening (plain_step model e event) ≡ false
opens_none model e event uncontrolled = ap (λ b. b && is_none (refusal_in (plain_step model e event).reply.what)) uncontrolled

-- the leg under way after such an event
abbrev pub HasGoneOn : Rules → Engine → Event → ℕ → (old new : Option OpenLeg) → (before after : WaitingGroups) → Type 0
HasGoneOn model e event number None None before after = Unit {0}
HasGoneOn model e event number (Some old) (Some new) before after = IsStepped model e (plain_step model e event) number old new before after
HasGoneOn model e event number _ _ before after = ⊥

module _ (model : Rules) (lawful : IsLawful model) (run : Run) (e : Engine) (stands : StandsIn model run (state_in e)) (event : Event) where
  -- the definitions' reply is the machine's answer
  pub replied : (given : Reply) → IsReply model (state_in e) event given → given ≡ answer model (state_in e) event
  replied given is =
      is run stands
      ∙ sym (ap (λ (s : State). answer model s event) stands.there ∙ (does model (leg_of model run) event lawful (present_sound model lawful run e stands)).answers)

  pub weighed : is_scan event ≡ false → e.number < 1000000 → IsWeighed model e (plain_step model e event)
  weighed unscanned room = record { room = room; reply = refl; verdicts = verdicts-none model (state_in e) event unscanned; told = plain_tells model e event [] unscanned }

  module _ (unscanned : is_scan event ≡ false) (stays : is_opening (plain_step model e event) ≡ false) (room : e.number < 1000000) (wide : IsWide e.table) (of_waiting : AreOfWaiting e) where
    -- what is made of the run with the event more
    pub plain_made : (made new : Made) → IsMadeWith model run e made → (after : Engine) → StandsIn model (plus run event) (state_in after) → HasToldBlamesAfter model e event after → IsLastScanAfter model e event after → new.ended ≡ made.ended
        → (noted number : ℕ) → number ≡ e.number + 1 → (before later : WaitingGroups) (current next : Option OpenLeg) → HasGoneOn model e event number current next before later → made.current ≡ option_map (open_end noted before) current → new.current ≡ option_map (open_end number later) next
        → IsMadeWith model (plus run event) after new
    plain_made made new is after stands_after blamed known ended noted number numbered before later None None gone was now =
        none_made model lawful run e stands (plain_step model e event) (weighed unscanned room) made new is wide of_waiting after stands_after blamed known stays ended was now
    plain_made made new is after stands_after blamed known ended noted number numbered before later (Some leg) (Some on) gone was now =
        still_made model lawful run e stands (plain_step model e event) (weighed unscanned room) made new is wide of_waiting after stands_after blamed known stays ended noted number leg on before later numbered gone was now
    plain_made made new is after stands_after blamed known ended noted number numbered before later None (Some on) gone was now = absurd gone
    plain_made made new is after stands_after blamed known ended noted number numbered before later (Some leg) None gone was now = absurd gone
