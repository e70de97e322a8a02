-- How the legs of a run ended, with their certificates, and what is made of a run so far.
use Rattle.std.specs.Prelude.{◌≡◌, ℕ, pred, ◌≤◌, Bool, ◌&&◌, List, [], ◌∷◌, ◌++◌, map, drop, length, Option, Some, None, is_none, is_some, false, if◌then◌else◌, nat_eq, slice_get, IsTrue}
use Rattle.std.specs.List.{find}
use Rattle.std.specs.Option.{option_map}
use Rattle.lp_model.specs.Rules.{Rules}
use Rattle.lp_definitions.specs.declared.event.Event.{Event}
use Rattle.lp_definitions.specs.declared.reply.What.{What}
use Rattle.lp_definitions.specs.Events.{is_control}
use Rattle.lp_transition.specs.Weigh.{Weighed, HasToldBlamesAfter, refusal_in}
use Rattle.lp_definitions.specs.Leg.{Leg}
use Rattle.lp_definitions.specs.Run.{Run, plus, first_leg, leg_of, opens, next_leg}
use Rattle.lp_definitions.specs.Schedule.{waits, first_check}
use Rattle.lp_machine.specs.Machine.{state_of}
use Rattle.lp_machine.specs.Steps.{StandsIn}
use Rattle.lp_machine.specs.Table.{Engine, state_in}
use Rattle.lp_transition.specs.LastScan.{IsLastScanAfter}
use Rattle.lp_definitions.specs.declared.cert.Claim.TheVariants.{Floor}
use Rattle.lp_definitions.specs.declared.cert.Cert.{Cert}
use Rattle.lp_cert.specs.declared.cert_head.CertHead.{CertHead}
use Rattle.lp_definitions.specs.Ends.{LegEnd, end_of}
use Rattle.lp_cert.specs.declared.leg_end.LegEndRef.{LegEndRef}
use Rattle.lp_cert.specs.declared.leg_list.LegEnds.{LegEnds}
use Rattle.lp_definitions.specs.Certificates.{lines, opened_legs}
use Rattle.lp_cert.specs.Unchanged.{AreUnchangedBy, AreHeld}

-- an event of which this is told opens a leg: it is a control event, and was accepted
abbrev pub is_opened : Event → What → Bool
is_opened event what = is_control event && is_none (refusal_in what)

-- so does one that was weighed
abbrev pub is_opening : Weighed → Bool
is_opening step = is_opened step.event step.reply.what

-- room for an event that may open a leg, answered by so many verdicts
pub record Room : Type 0 where
  pub opens : Bool
  pub verdicts : ℕ

-- the room that an event needs
abbrev pub room_for : Weighed → Room
room_for step = record { opens = is_opening step; verdicts = length step.verdicts }

-- the ends of the legs that ended, the end of the leg under way as it stands, and the event for which there is room
pub record Made : Type 0 where
  pub ended : List LegEnd
  pub current : Option LegEnd
  pub ready : Option Room

-- nothing is made yet
pub record IsFresh (made : Made) : Type 0 where
  pub ended : made.ended ≡ []
  pub current : made.current ≡ None
  pub ready : made.ready ≡ None

-- the end that is borrowed
abbrev pub end_in : LegEndRef → LegEnd
end_in end = record { opened = end.opened; target = end.target; completed = end.completed; certs = end.certs }

-- the ends that are left to be looked at
abbrev pub ends_left : LegEnds → List LegEnd
ends_left ends = drop ends.passed ends.rows.now.ends

-- a certificate up to another event
abbrev pub cert_upto : ℕ → Cert → Cert
cert_upto upto cert = record cert { upto = upto }

-- the end of a leg under way as it stands after so many events, where only their number has changed
abbrev pub end_upto : ℕ → LegEnd → LegEnd
end_upto upto end = if is_none end.completed then record end { certs = map (cert_upto upto) end.certs } else end

-- and what is made
abbrev pub made_upto : ℕ → Made → Made
made_upto upto made = record made { current = option_map (end_upto upto) made.current }

-- the same, with room for no event
abbrev pub passed_upto : ℕ → Made → Made
passed_upto upto made = record (made_upto upto made) { ready = None }

-- a certificate without its lines
abbrev pub cert_head : Cert → CertHead
cert_head cert = record { claim = cert.claim; leg = cert.leg; group = cert.group; upto = cert.upto }

-- ---- The certificates of the leg under way, while it isn't complete

-- that a group waits
abbrev pub waiting_in : Option LegEnd → (group : ℕ) → Option Cert
waiting_in None group = None
waiting_in (Some leg) group = if is_none leg.completed then find (λ cert. nat_eq cert.group.0 group) leg.certs else None

-- that the leg isn't complete, as the least group waits
abbrev pub floor_in : Option LegEnd → Option Cert
floor_in None = None
floor_in (Some leg) = if is_none leg.completed then option_map (λ (cert : Cert). record cert { claim = Floor }) (slice_get leg.certs 0) else None

-- the leg is complete
abbrev pub is_complete_in : Option LegEnd → Bool
is_complete_in None = false
is_complete_in (Some leg) = is_some leg.completed

-- ---- The legs of a run

module _ (model : Rules) where
  -- the legs that ended by these events, what stands before the first control event in front
  unfoldable pub ended_legs : Leg → List Event → List Leg
  ended_legs leg [] = []
  ended_legs leg (event ∷ events) = (if opens model leg event then leg ∷ [] else []) ++ ended_legs (next_leg model leg event) events

  -- the leg under way, once a control event opened one
  abbrev pub under_way : List Leg → Leg → Option Leg
  under_way [] leg = None
  under_way (first ∷ rest) leg = Some leg

  -- what is made is that of the run
  pub record IsMadeOf (run : Run) (made : Made) : Type 0 where
    pub ended : made.ended ≡ map (end_of model) (drop 1 (ended_legs (first_leg model run) run.events))
    pub current : made.current ≡ option_map (end_of model) (under_way (ended_legs (first_leg model run) run.events) (leg_of model run))

  -- and the engine knows of each group that waits how its newest line goes on: the frame that holds it back is its standing blame, and the
  -- group is unchanged where, as the engine knows it, nothing happened to it since the last scan
  pub record IsMadeWith (run : Run) (e : Engine) (made : Made) : Type 0 where
    pub of_run : IsMadeOf run made
    pub open of_run use {ended, current}
    pub unchanged :
        AreUnchangedBy model (state_of model (leg_of model run)) (lines model (leg_of model run) (length (leg_of model run).events))
        e.last_scan
    pub held : AreHeld (state_of model (leg_of model run)) (lines model (leg_of model run) (length (leg_of model run).events)) e

  -- what is made follows an event: if it was that of a run that stood in one engine, it is that of the run with the event in
  -- each engine that the event can leave
  abbrev pub IsMadeFurther : (old : Engine) → Event → (before after : Made) → Type 0
  IsMadeFurther old event before after =
      (run : Run) (new : Engine) → StandsIn model run (state_in old) → IsMadeWith run old before →
      StandsIn model (plus run event) (state_in new) → HasToldBlamesAfter model old event new → IsLastScanAfter model old event new →
      IsMadeWith (plus run event) new after

  -- ---- The leg under way

  -- the leg under way: the last that was opened
  abbrev pub leg_under_way : Run → Option Leg
  leg_under_way run = let opened = opened_legs model (first_leg model run) run.events in slice_get opened (pred (length opened))

  -- the group of least number that waits after all events of the leg
  pub record IsLeastWaiting (leg : Leg) (group : ℕ) : Type 0 where
    pub waiting : IsTrue (waits model leg (first_check model leg) (length leg.events) group)
    pub least : (other : ℕ) → IsTrue (waits model leg (first_check model leg) (length leg.events) other) → group ≤ other
