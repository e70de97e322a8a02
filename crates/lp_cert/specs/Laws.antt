-- The laws of certificates, for one model.
use Rattle.std.specs.Prelude.{◌≡◌, ◌≢◌, ℕ, suc, pred, ◌≤◌, true, false, [], ◌++◌, length, map, take, Some, None, option_to_list, slice_get, if◌then◌else◌, IsTrue, IsFalse}
use Rattle.std.specs.Option.{option_map}
use Rattle.lp_stack.specs.declared.number.TaskId.{TaskId}
use Rattle.lp_model.specs.declared.check.CheckKind.{CheckKind}
use Rattle.lp_model.specs.declared.check.ForkKind.{ForkKind}
use Rattle.lp_model.specs.Rules.{Rules}
use Rattle.lp_definitions.specs.declared.event.Event.{Event}
use Rattle.lp_definitions.specs.declared.event.Event.TheVariants.{Resched, Fork}
use Rattle.lp_definitions.specs.declared.refusal.Refusal.{Refusal}
use Rattle.lp_definitions.specs.Events.{is_scan}
use Rattle.lp_definitions.specs.Sound.{IsSound}
use Rattle.lp_definitions.specs.Leg.{State, Leg}
use Rattle.lp_definitions.specs.Run.{Run, AreInRange, and_then, first_leg, leg_of, refused_by}
use Rattle.lp_definitions.specs.Schedule.{waits, first_check}
use Rattle.lp_transition.specs.Scan.{is_scan_kind, scan_event, verdicts_of, first_refused}
use Rattle.lp_machine.specs.Machine.{waits_in, state_of}
use Rattle.lp_definitions.specs.declared.cert.Claim.TheVariants.{Waiting, Floor}
use Rattle.lp_definitions.specs.Certificates.{lines, cert, completion, floor_certs, opened_legs}
use Rattle.lp_cert.specs.Ends.{Made, IsFresh, IsMadeOf, IsLeastWaiting, leg_under_way, waiting_in, floor_in}
use Rattle.lp_definitions.specs.Ends.{end_of}
use Rattle.lp_transition.specs.Blames.{first_blamed_in}
use Rattle.lp_cert.specs.EventLines.{lines_after_scan, lines_after_own_check, is_resched, lines_after_fork, is_fork}

-- the lines of a group come with the events of its leg: each leaves those before it as they are, or goes by the state
-- in which an engine is before it
pub record LinesComeWithEvents (model : Rules) : Type 0 where
  -- an event changes no line of the events before it
  pub past :
      (leg : Leg) (event : Event) (k group : ℕ) → k ≤ length leg.events →
      lines model (and_then leg event) k group ≡ lines model leg k group
  -- a scan of a kind that the model uses, for a group that waits
  pub scan :
      (leg : Leg) (kind : CheckKind) (group : ℕ) → is_scan_kind kind ≡ true → IsTrue (model.uses kind) →
      IsTrue (waits_in (state_of model leg) group) →
      lines model (and_then leg (scan_event kind)) (suc (length leg.events)) group
      ≡ lines_after_scan model (state_of model leg) kind group (lines model leg (length leg.events) group)
  -- the verdicts of a scan tell whom it refuses first
  pub verdicts :
      (s : State) → IsSound s → (kind : CheckKind) (group : ℕ) → IsTrue (waits_in s group) →
      first_refused s group (verdicts_of model kind s) ≡ first_blamed_in model s kind group
  -- a scan of any other kind
  pub unused_scan :
      (leg : Leg) (kind : CheckKind) (group : ℕ) → is_scan_kind kind ≡ true → IsFalse (model.uses kind) →
      lines model (and_then leg (scan_event kind)) (suc (length leg.events)) group
      ≡ lines model leg (length leg.events) group
  -- a fork that is accepted
  pub fork :
      (leg : Leg) (p c : TaskId) (how : ForkKind) (group : ℕ) → refused_by model leg (Fork p c how) ≡ None →
      lines model (and_then leg (Fork p c how)) (suc (length leg.events)) group
      ≡ lines_after_fork model (state_of model leg) p c how (lines model leg (length leg.events)) group
  -- a fork that is refused
  pub refused_fork :
      (leg : Leg) → IsSound leg.opening → (p c : TaskId) (how : ForkKind) (why : Refusal) (group : ℕ) →
      refused_by model leg (Fork p c how) ≡ Some why →
      lines model (and_then leg (Fork p c how)) (suc (length leg.events)) group ≡ lines model leg (length leg.events) group
  -- an own check in the kernel that is accepted
  pub own_check :
      (leg : Leg) (t : TaskId) (group : ℕ) → refused_by model leg (Resched t) ≡ None →
      lines model (and_then leg (Resched t)) (suc (length leg.events)) group
      ≡ lines_after_own_check model (state_of model leg) t group (lines model leg (length leg.events) group)
  -- and one that is refused
  pub refused_own_check :
      (leg : Leg) → IsSound leg.opening → (t : TaskId) (why : Refusal) (group : ℕ) →
      refused_by model leg (Resched t) ≡ Some why →
      lines model (and_then leg (Resched t)) (suc (length leg.events)) group ≡ lines model leg (length leg.events) group
  -- any other event: a task that returns to user space or is at its idle point has an empty stack, so that check goes well
  pub others :
      (leg : Leg) → IsSound leg.opening → (event : Event) (group : ℕ) → is_scan event ≡ false → is_fork event ≡ false → is_resched event ≡ false →
      lines model (and_then leg event) (suc (length leg.events)) group ≡ lines model leg (length leg.events) group

-- what a maker holds
pub record MakersTell (model : Rules) : Type 0 where
  -- a run begins without a leg
  pub begins : (run : Run) (made : Made) → run.events ≡ [] → IsFresh made → IsMadeOf model run made
  -- what is made of a run is the ends of its legs, with their certificates
  pub legs :
      (run : Run) (made : Made) → IsMadeOf model run made →
      made.ended ++ option_to_list made.current ≡ map (end_of model) (opened_legs model (first_leg model run) run.events)
  -- apart: those of all legs that were opened but the last
  pub ended :
      (run : Run) (made : Made) → IsMadeOf model run made →
      made.ended
      ≡ (let opened = opened_legs model (first_leg model run) run.events in map (end_of model) (take (pred (length opened)) opened))
  -- and that of the last, the leg under way, as it stands. Before one is opened there is none
  pub current :
      (run : Run) (made : Made) → IsMadeOf model run made →
      made.current ≡ option_map (end_of model) (leg_under_way model run)
  -- which is the leg that the run is in
  pub under_way : (run : Run) (leg : Leg) → leg_under_way model run ≡ Some leg → leg ≡ leg_of model run
  -- in a leg that isn't complete there is a certificate for each group that waits, and for no other
  pub waiting :
      (leg : Leg) (group : ℕ) → completion model leg ≡ None → group ≤ leg.bounds.tasks →
      waiting_in (Some (end_of model leg)) group
      ≡ (if waits model leg (first_check model leg) (length leg.events) group then Some (cert model leg Waiting (length leg.events) group) else None)
  -- and a floor for the least of them
  pub floor :
      (leg : Leg) → completion model leg ≡ None →
      floor_in (Some (end_of model leg)) ≡ slice_get (floor_certs model leg (length leg.events)) 0
  -- in a leg that is complete nobody waits
  pub complete :
      (leg : Leg) (k group : ℕ) → completion model leg ≡ Some k →
      (waiting_in (Some (end_of model leg)) group ≡ None) × (floor_in (Some (end_of model leg)) ≡ None)
  -- while a leg is under way and isn't complete there is a floor, for the least group that waits
  pub floors :
      (run : Run) (made : Made) → AreInRange run.bounds run.boots → IsMadeOf model run made →
      (leg : Leg) → leg_under_way model run ≡ Some leg → completion model leg ≡ None →
      (group : ℕ) × IsLeastWaiting model leg group × (floor_in made.current ≡ Some (cert model leg Floor (length leg.events) group))
  -- and at any other time none
  pub no_floor :
      (run : Run) (made : Made) → IsMadeOf model run made →
      ((leg : Leg) → leg_under_way model run ≡ Some leg → completion model leg ≢ None) → floor_in made.current ≡ None
