-- What a run comes to: the replies, how each leg ended, and the stays.
use Rattle.std.specs.Prelude.{◌≡◌, ℕ, List, map}
use Rattle.lp_model.specs.Rules.{Rules}
use Rattle.lp_definitions.specs.declared.event.Event.{Event}
use Rattle.lp_definitions.specs.declared.reply.Reply.{Reply}
use Rattle.lp_definitions.specs.Leg.{Leg}
use Rattle.lp_definitions.specs.Run.{Run, first_leg, replies}
use Rattle.lp_definitions.specs.Stays.{stay_count, mixed_count}
use Rattle.lp_definitions.specs.Certificates.{opened_legs}
use Rattle.lp_definitions.specs.Ends.{LegEnd, end_of}

-- what a run came to: the reply to each event, the ends of the legs in the order in which they opened, and how many stays
-- there were and how many of them are mixed
pub record Outcome : Type 0 where
  pub replies : List Reply
  pub legs : List LegEnd
  pub stays : ℕ
  pub mixed : ℕ

module _ (model : Rules) where
  -- the ends of the legs that control events opened, each with its certificates
  abbrev pub leg_ends : Leg → List Event → List LegEnd
  leg_ends leg events = map (end_of model) (opened_legs model leg events)

  -- what a run came to, as the definitions say
  pub record IsOutcome (run : Run) (found : Outcome) : Type 0 where
    pub replied : found.replies ≡ replies model (first_leg model run) run.events
    pub legs : found.legs ≡ leg_ends (first_leg model run) run.events
    pub stays : found.stays ≡ stay_count model (first_leg model run) run.events
    pub mixed : found.mixed ≡ mixed_count model (first_leg model run) run.events
