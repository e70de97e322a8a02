-- When an event that a task makes itself can't be: as everywhere here. No task of the kernel switches with another, so each is alone
-- in its group.
use Rattle.std.specs.Prelude.{List, length, Option}
use Rattle.lp_definitions.specs.declared.event.Event.{Event}
use Rattle.lp_definitions.specs.declared.refusal.Refusal.{Refusal}
use Rattle.lp_definitions.specs.Tasks.{map_live, Outlines, Bounds, tests}
use Rattle.lp_linux.specs.Transition.{TaskList}

abbrev pub outlines : TaskList → Outlines
outlines tasks t = map_live (λ task. record { class = task.class; mode = task.mode; group = t; depth = length task.stack }) (tasks t)

abbrev pub own_tests : Bounds → TaskList → Event → List (Option Refusal)
own_tests bounds tasks event = tests bounds (outlines tasks) event
