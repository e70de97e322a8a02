-- How the machine is tied to the definitions, for one model.
use Rattle.std.specs.Prelude.{◌≡◌, List, []}
use Rattle.lp_model.specs.Rules.{Rules}
use Rattle.lp_definitions.specs.declared.event.Event.{Event}
use Rattle.lp_definitions.specs.Leg.{State, Leg}
use Rattle.lp_definitions.specs.Sound.{IsSound}
use Rattle.lp_definitions.specs.Run.{Run, AreInRange, first_leg, replies}
use Rattle.lp_machine.specs.Machine.{answer, next, answers, state_of}
use Rattle.lp_machine.specs.Steps.{StandsIn, IsStep, opening_at}

-- the machine steps as every run does, and so gives all of a run's replies
pub record StepsAsDefined (model : Rules) : Type 0 where
  -- a run without events stands in the state that its boot list says
  pub starts :
      (run : Run) → run.events ≡ [] → AreInRange run.bounds run.boots →
      StandsIn model run (first_leg model run).opening
  pub steps :
      (before : State) (event : Event) →
      IsStep model before event (answer model before event) (next model before event)
  pub all :
      (run : Run) → AreInRange run.bounds run.boots →
      answers model (first_leg model run).opening run.events ≡ replies model (first_leg model run) run.events

-- where a leg stands is sound as an opening is, each step keeps that, and from any moment on the replies of a leg
-- are those of a leg that opens there
pub record StatesAreSound (model : Rules) : Type 0 where
  pub there : (leg : Leg) → IsSound leg.opening → IsSound (state_of model leg)
  pub stays : (s : State) (event : Event) → IsSound s → IsSound (next model s event)
  pub cut :
      (leg : Leg) → IsSound leg.opening → (events : List Event) →
      replies model (opening_at (state_of model leg)) events ≡ replies model leg events
