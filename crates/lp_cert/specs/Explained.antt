-- An engine with what is made of its run, and when both are those of a run.
use Rattle.std.specs.Prelude.{List, Option, None}
use Rattle.lp_model.specs.Rules.{Rules}
use Rattle.lp_definitions.specs.Ends.{LegEnd}
use Rattle.lp_definitions.specs.Run.{Run}
use Rattle.lp_machine.specs.Steps.{StandsIn}
use Rattle.lp_machine.specs.Table.{Engine, state_in}
use Rattle.lp_cert.specs.Ends.{Made, IsMadeWith}

-- the engine, the ends of the legs that ended, and the end of the leg under way as it stands
pub record Explained : Type 0 where
  pub core : Engine
  pub ended : List LegEnd
  pub current : Option LegEnd

-- what is made, with no room for an event
abbrev pub made_in : Explained → Made
made_in explained = record { ended = explained.ended; current = explained.current; ready = None }

module _ (model : Rules) where
  -- the engine stands where the run stands, and what is made is that of the run
  pub record IsExplained (run : Run) (explained : Explained) : Type 0 where
    pub stands : StandsIn model run (state_in explained.core)
    pub made : IsMadeWith model run explained.core (made_in explained)
