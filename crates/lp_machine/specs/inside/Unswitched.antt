-- The tasks of a leg with nobody switching, as a checker folds the events.
use Rattle.std.specs.Prelude.{ℕ, zero, suc, ◌+◌, Option, Some, None, slice_get}
use Rattle.lp_definitions.specs.declared.event.Event.{Event}
use Rattle.lp_definitions.specs.Tasks.{first_of, Bounds, tests, Grouping}
use Rattle.lp_definitions.specs.Leg.{Leg, unless_refused}
use Rattle.lp_machine.specs.Machine.{LegTasks, outlines_of, own_effect}

abbrev pub accept_unswitched : Bounds → LegTasks → Option Event → Option Event
accept_unswitched bounds now None = None
accept_unswitched bounds now (Some event) = unless_refused (first_of (tests bounds (outlines_of now) event)) event

abbrev pub take_own_effect : Grouping → ℕ → Option Event → LegTasks → LegTasks
take_own_effect grouping number None now = now
take_own_effect grouping number (Some event) now = own_effect grouping number event now

-- the tasks after the first k events of a leg
unfoldable pub unswitched : Grouping → Leg → ℕ → LegTasks
unswitched grouping leg zero = leg.tasks
unswitched grouping leg (suc k) =
    let now = unswitched grouping leg k in
    take_own_effect grouping (suc (leg.number + k)) (accept_unswitched leg.bounds now (slice_get leg.events k)) now
