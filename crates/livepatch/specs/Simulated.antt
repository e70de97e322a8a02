-- A run as a simulator keeps it, with the engine that stands where the run does.
use Rattle.std.specs.Prelude.{◌≡◌, ◌+◌, length, List, [], drop, Option, Some, None}
use Rattle.lp_stack.specs.declared.number.TaskId.{TaskId}
use Rattle.lp_stack.specs.declared.view.Class.{Class}
use Rattle.lp_patch.specs.Patches.{Patches}
use Rattle.lp_model.specs.Rules.{Rules}
use Rattle.lp_definitions.specs.declared.event.Event.{Event}
use Rattle.lp_definitions.specs.Run.{Run, leg_of}
use Rattle.lp_machine.specs.Table.{Engine, bounds_of, state_in}
use Rattle.lp_cert.specs.Explained.{Explained, IsExplained}

-- the engine, and the run so far: how it started, and its events
pub record Simulated : Type 0 where
  pub core : Engine
  pub run : Run

-- the run with these patches, these tasks at its start and these events
abbrev pub run_with : Patches → List (TaskId × Class) → List Event → Run
run_with patches boots events = record { bounds = bounds_of patches; patches = patches; boots = boots; events = events }

module _ (model : Rules) where
  -- the leg that the run is in opened so; while no opening is kept, no event came since
  abbrev pub OpensWith : Run → Option Engine → Type 0
  OpensWith run None = (leg_of model run).events ≡ []
  OpensWith run (Some opening) = state_in opening ≡ (leg_of model run).opening

  -- the engine stands where the run stands, what is made is that of the run, and the leg that it is in has its opening and
  -- the events since
  pub record IsKept (run : Run) (known : Explained) (opening : Option Engine) : Type 0 where
    pub explained : IsExplained model run known
    pub open explained use {stands, made}
    pub opened : OpensWith run opening
    pub since : (leg_of model run).events ≡ drop (leg_of model run).number run.events
    pub count : (leg_of model run).number + length (leg_of model run).events ≡ length run.events
