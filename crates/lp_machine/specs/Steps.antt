-- What a step of an engine is to be: that of every run that stands where the engine stands.
use Rattle.std.specs.Prelude.{◌≡◌, [], IsTrue}
use Rattle.lp_model.specs.Rules.{Rules}
use Rattle.lp_definitions.specs.declared.event.Event.{Event}
use Rattle.lp_definitions.specs.declared.reply.Reply.{Reply}
use Rattle.lp_definitions.specs.Leg.{State, Leg}
use Rattle.lp_definitions.specs.Run.{Run, AreInRange, plus, leg_of, opens, reply}
use Rattle.lp_machine.specs.Machine.{state_of}

module _ (model : Rules) where
  -- the run stands in this state
  pub record StandsIn (run : Run) (state : State) : Type 0 where
    pub in_range : AreInRange run.bounds run.boots
    pub there : state ≡ state_of model (leg_of model run)

  -- the reply to the event is the definitions', for every run that stands in the state
  abbrev pub IsReply : State → Event → Reply → Type 0
  IsReply before event given = (run : Run) → StandsIn run before → given ≡ reply model (leg_of model run) event

  -- from one state to another at an event, with this reply, is the step of every run that stands in the first:
  -- the reply is the definitions', and the run with the event stands in the second
  pub record IsStep (before : State) (event : Event) (given : Reply) (after : State) : Type 0 where
    pub replies : IsReply before event given
    pub reaches : (run : Run) → StandsIn run before → StandsIn (plus run event) after

  -- a run that stands here after an accepted control event is at the opening of the leg that this event opened
  abbrev pub OpensLegs : State → Type 0
  OpensLegs now =
      (run : Run) (event : Event) → IsTrue (opens model (leg_of model run) event) → StandsIn (plus run event) now →
      now ≡ (leg_of model (plus run event)).opening

-- the leg that opens with a state
abbrev pub opening_at : State → Leg
opening_at s = record { opening = s; events = [] }
