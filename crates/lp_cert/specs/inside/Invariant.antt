-- What holds of a maker between events, and what an event makes of the leg under way.
use Rattle.std.specs.Prelude.{◌≡◌, ℕ, ◌<◌, ◌≤◌, Bool, true, false, List, [], reverse, take, Option, Some, None, IsSome, is_some, if◌then◌else◌}
use Rattle.std.specs.Option.{option_map}
use Rattle.lp_stack.specs.declared.number.GroupId.{GroupId}
use Rattle.lp_model.specs.Rules.{Rules}
use Rattle.lp_definitions.specs.declared.event.Event.{Event}
use Rattle.lp_definitions.specs.Run.{Run, plus}
use Rattle.lp_machine.specs.Machine.{answer}
use Rattle.lp_machine.specs.Steps.{StandsIn}
use Rattle.lp_machine.specs.Table.{Engine, state_in}
use Rattle.lp_transition.specs.Weigh.{Weighed, refusal_in}
use Rattle.lp_definitions.specs.declared.cert.Claim.{Claim}
use Rattle.lp_definitions.specs.declared.cert.Cert.{Cert}
use Rattle.lp_definitions.specs.declared.line.Line.{Line}
use Rattle.lp_cert.specs.declared.open_leg.OpenLeg.{OpenLeg}
use Rattle.lp_cert.specs.declared.maker.Ready.{Ready}
use Rattle.lp_cert.specs.inside.LegRows.{KeptEnds}
use Rattle.lp_cert.specs.inside.StepLines.{stepped_lines}
use Rattle.lp_transition.specs.LastScan.{used_scan}
use Rattle.lp_cert.specs.Waiters.{WaitingGroups, waiters_of}
use Rattle.lp_cert.specs.inside.Waiters.{AreStanding, HasFewGroups, lines_at}
use Rattle.lp_cert.specs.Ends.{Made, IsMadeWith}
use Rattle.lp_cert.specs.Invariant.{open_end}

-- the certificate of a group with these lines, the newest in front
abbrev pub waiting_cert : Claim → (leg upto : ℕ) → GroupId → List Line → Cert
waiting_cert claim leg upto group lines = record { claim = claim; leg = leg; group = group; upto = upto; lines = reverse lines }

-- there is room for the reasons that an event adds, which so many verdicts answer, and for its scan
pub record HasNoteRoom (verdicts : ℕ) (waiters : WaitingGroups) : Type 0 where
  pub own : 1 < waiters.reasons.room
  pub found : verdicts ≤ waiters.reasons.room
  pub scan : 0 < waiters.reasons.scan_room

-- if the event opens a leg, the end of the one under way is made, and else there is room for what it adds
pub record IsReady (noted : ℕ) (current : Option OpenLeg) (waiters : WaitingGroups) (ended : KeptEnds) (ready : Ready) : Type 0 where
  pub left : ready.opens ≡ true → ended.closing ≡ option_map (open_end noted waiters) current
  pub room : ready.opens ≡ false → HasNoteRoom ready.verdicts waiters

abbrev pub IfReady : ℕ → Option OpenLeg → WaitingGroups → KeptEnds → Option Ready → Type 0
IfReady noted current waiters ended None = Unit {0}
IfReady noted current waiters ended (Some ready) = IsReady noted current waiters ended ready

-- the certificates of the leg under way stay as they are: it is complete, or there is none
abbrev pub is_settled : Option OpenLeg → Bool
is_settled None = true
is_settled (Some leg) = is_some leg.completed

-- the leg that opens with this event, with the level to which it goes
abbrev pub leg_at : (number level : ℕ) → Bool → OpenLeg
leg_at number level completed =
    record {
      opened = number;
      target = record { 0 = level };
      completed = if completed then Some number else None;
    }

-- the leg completes with the event, and of the groups that waited only the least is kept
pub record IsCompletedAt (number : ℕ) (old new : OpenLeg) (before after : WaitingGroups) : Type 0 where
  pub now : new ≡ record old { completed = Some number }
  pub least : waiters_of after ≡ take 1 (waiters_of before)
  pub reasons : after.reasons ≡ before.reasons

-- the leg after an event: a complete leg stays, one that completes keeps its least group, and any other has the next lines
pub record IsStepped (model : Rules) (e : Engine) (step : Weighed) (number : ℕ) (old new : OpenLeg) (before after : WaitingGroups) : Type 0 where
  pub complete : (at : ℕ) → old.completed ≡ Some at → (new ≡ old) × (after ≡ before)
  pub completes : old.completed ≡ None → step.reply.completed ≡ true → IsCompletedAt number old new before after
  pub continues :
      old.completed ≡ None → step.reply.completed ≡ false →
      (new ≡ old) × ((group : ℕ) → lines_at after group ≡ stepped_lines model e step before group)
      × (refusal_in step.reply.what ≡ None → HasFewGroups e step.event)
      × (IsSome (used_scan model step.event) → refusal_in step.reply.what ≡ None → AreStanding before)

-- what is made follows an event that the engine took: if it was that of a run that stood in the engine before, it is that of the run
-- with the event in the engine after
abbrev pub IsMadeAfter : Rules → (old : Engine) → Event → (new : Engine) → (before after : Made) → Type 0
IsMadeAfter model old event new before after =
    (run : Run) → StandsIn model run (state_in old) → IsMadeWith model run old before → IsMadeWith model (plus run event) new after

-- an event that is no scan as it is weighed
abbrev pub plain_step : Rules → Engine → Event → Weighed
plain_step model e event = record { event = event; reply = answer model (state_in e) event; verdicts = [] }
