-- An event that is no scan and opens no leg changes nothing of a leg that is complete.
use Rattle.std.proofs.Common.{◌≡◌, ◌<◌, ◌+◌, ℕ, true, false, Option, Some, None, is_some, refl, sym, ap, ◌∙◌}
use Rattle.std.specs.Option.{option_map}
use Rattle.std.proofs.lemmas.Bool.{false≢true}
use Rattle.lp_model.specs.Rules.{Rules, IsLawful}
use Rattle.lp_definitions.specs.declared.event.Event.{Event}
use Rattle.lp_definitions.specs.Events.{is_scan}
use Rattle.lp_transition.specs.LastScan.{IsLastScanAfter}
use Rattle.lp_definitions.specs.Run.{Run, plus}
use Rattle.lp_machine.specs.Steps.{StandsIn}
use Rattle.lp_machine.specs.Table.{Engine, IsWide, state_in}
use Rattle.lp_transition.specs.Blames.{AreOfWaiting}
use Rattle.lp_transition.specs.Weigh.{HasToldBlamesAfter}
use Rattle.lp_cert.specs.declared.open_leg.OpenLeg.{OpenLeg}
use Rattle.lp_cert.specs.Ends.{Made, IsMadeWith, is_opening}
use Rattle.lp_cert.specs.Invariant.{open_end}
use Rattle.lp_cert.specs.inside.Invariant.{is_settled, plain_step}
use Rattle.lp_cert.specs.Waiters.{WaitingGroups}
use Rattle.lp_cert.proofs.Asked.{not_some}
use Rattle.lp_cert.proofs.PlainEvents.{HasGoneOn, plain_made}

-- a leg is under way that isn't complete
pub open_leg : (current : Option OpenLeg) → is_settled current ≡ false → (leg : OpenLeg) × (current ≡ Some leg) × (leg.completed ≡ None)
open_leg None settled = absurd (false≢true (sym settled))
open_leg (Some leg) settled = (leg, refl, not_some leg.completed settled)

module _ (model : Rules) (lawful : IsLawful model) (run : Run) (e : Engine) (stands : StandsIn model run (state_in e)) (event : Event) (no_scan : is_scan event ≡ false) (opens_none : is_opening (plain_step model e event) ≡ false) (room : e.number < 1000000) (wide : IsWide e.table) (of_waiting : AreOfWaiting e) where
  unfinished_not : (leg : OpenLeg) → is_some leg.completed ≡ true → leg.completed ≡ None → ⊥
  unfinished_not leg settled unfinished = false≢true (sym (ap is_some unfinished) ∙ settled)

  stays : (number : ℕ) (waiters : WaitingGroups) (current : Option OpenLeg) → is_settled current ≡ true → HasGoneOn model e event number current current waiters waiters
  stays number waiters None settled = tt
  stays number waiters (Some leg) settled = record {
    complete = λ done is. (refl, refl);
    completes = λ unfinished completed. absurd (unfinished_not leg settled unfinished);
    continues = λ unfinished incomplete. absurd (unfinished_not leg settled unfinished);
  }

  -- what is made of the run with the event more
  pub rested : (made new : Made) → IsMadeWith model run e made → (after : Engine) → StandsIn model (plus run event) (state_in after) → HasToldBlamesAfter model e event after → IsLastScanAfter model e event after → new.ended ≡ made.ended
      → (noted number : ℕ) (waiters : WaitingGroups) → number ≡ e.number + 1 → (current : Option OpenLeg) → is_settled current ≡ true → made.current ≡ option_map (open_end noted waiters) current → new.current ≡ option_map (open_end number waiters) current
      → IsMadeWith model (plus run event) after new
  rested made new is after stands_after blamed known ended noted number waiters numbered current settled =
      plain_made model lawful run e stands event no_scan opens_none room wide of_waiting made new is after stands_after blamed known ended noted number numbered waiters waiters current current (stays number waiters current settled)
