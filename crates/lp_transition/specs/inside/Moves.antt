-- Moves of a task between user space, the kernel and sleep at which nothing is checked.
use Rattle.std.specs.Prelude.{Option, Some, None}
use Rattle.lp_stack.specs.declared.number.TaskId.{TaskId}
use Rattle.lp_stack.specs.declared.view.Mode.{Mode}
use Rattle.lp_stack.specs.declared.view.Mode.TheVariants.{Asleep, Kernel}
use Rattle.lp_definitions.specs.declared.event.Event.{Event}
use Rattle.lp_definitions.specs.declared.event.Event.TheVariants.{Sleep, Wake, Enter}

-- the task that an event moves and the mode in which it is afterwards; None where the event is no such move
abbrev pub moved_by : Event → Option (TaskId × Mode)
moved_by (Sleep t) = Some (t, Asleep)
moved_by (Wake t) = Some (t, Kernel)
moved_by (Enter t) = Some (t, Kernel)
moved_by _ = None
