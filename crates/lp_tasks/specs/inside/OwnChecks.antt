-- Own checks: those that a task makes of itself where it returns to user space, at its idle point, and where it would let
-- another run.
use Rattle.std.specs.Prelude.{Bool, true, false}
use Rattle.lp_stack.specs.declared.number.TaskId.{TaskId}
use Rattle.lp_stack.specs.declared.view.Mode.{Mode}
use Rattle.lp_stack.specs.declared.view.Mode.TheVariants.{User}
use Rattle.lp_model.specs.declared.check.CheckKind.{CheckKind}
use Rattle.lp_model.specs.declared.check.CheckKind.TheVariants.{KernelExit, IdlePoint, Resched}
use Rattle.lp_definitions.specs.declared.event.Event.{Event}
use Rattle.lp_definitions.specs.declared.event.Event.TheVariants.{Exit, Idle, Resched}
use Rattle.lp_definitions.specs.Leg.{LegTask}
use Rattle.lp_machine.specs.Machine.{put_in}

-- the kind is that of such a check
abbrev pub is_own_kind : CheckKind → Bool
is_own_kind KernelExit = true
is_own_kind IdlePoint = true
is_own_kind Resched = true
is_own_kind _ = false

-- the event that is this check: an exit, a point where the task would let another run, or an idle point for any other kind
abbrev pub own_check_event : CheckKind → TaskId → Event
own_check_event KernelExit t = Exit t
own_check_event Resched t = Resched t
own_check_event _ t = Idle t

-- the mode in which the check finds the task
abbrev pub own_check_mode : CheckKind → Mode → Mode
own_check_mode KernelExit mode = User
own_check_mode _ mode = mode

-- the task as the check finds it
abbrev pub at_own_check : CheckKind → LegTask → LegTask
at_own_check kind x = put_in (own_check_mode kind x.mode) x
