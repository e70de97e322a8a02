-- Which desk it is: the start that its board shows, and the history of its events.
use Rattle.std.specs.Prelude.{false, List, [], Some}
use Rattle.logbook.specs.Pages.{Book}
use Rattle.lp_stack.specs.declared.number.TaskId.{TaskId}
use Rattle.lp_stack.specs.declared.view.Class.{Class}
use Rattle.lp_patch.specs.Patches.{Patches}
use Rattle.lp_model.specs.declared.check.Blame.TheVariants.{Unused}
use Rattle.lp_model.specs.Rules.{Rules}
use Rattle.lp_definitions.specs.declared.event.Event.{Event}
use Rattle.lp_definitions.specs.Leg.{State}
use Rattle.lp_definitions.specs.Run.{Run, leg_of}
use Rattle.lp_machine.specs.Machine.{state_of}
use Rattle.lp_machine.specs.Table.{bounds_of}

-- a model, how a run starts, and where the run's events are kept
pub record Name : Type 0 where
  pub model : Rules
  pub patches : Patches
  pub boots : List (TaskId × Class)
  pub book : Book

-- the run that started so and had these events
abbrev pub run_of : Name → List Event → Run
run_of name events =
    record { bounds = bounds_of name.patches; patches = name.patches; boots = name.boots; events = events }

-- the state that the definitions give for where that run stands
unfoldable pub state_after : Name → List Event → State
state_after name events = state_of name.model (leg_of name.model (run_of name events))

-- a model that uses no check, so nobody ever switches
abbrev pub no_checks : Rules
no_checks =
    record {
      uses = λ kind. false;
      admits = λ kind view aim. false;
      blame = λ kind view aim. Some Unused;
      first_group = λ task. task;
      child_group = λ group child how. child;
      whole_call = false;
    }

-- the name of no desk
abbrev pub nobody : Name
nobody =
    record {
      model = no_checks;
      patches = [];
      boots = [];
      book = record { number = 0; log_name = 0; cells_name = 0 };
    }
