-- Events of a single task: those at which nobody can switch, and own checks, which a task makes of itself.
use Rattle.std.specs.Prelude.{Bool, true, false}
use Rattle.lp_definitions.specs.declared.event.Event.{Event}
use Rattle.lp_definitions.specs.declared.event.Event.TheVariants.{Call, Ret, Sleep, Wake, Enter, Exit, Idle, Resched}

-- the task calls, returns, sleeps, wakes up or enters the kernel
abbrev pub is_quiet : Event → Bool
is_quiet (Call t f) = true
is_quiet (Ret t) = true
is_quiet (Sleep t) = true
is_quiet (Wake t) = true
is_quiet (Enter t) = true
is_quiet _ = false

-- the task returns to user space, is at its idle point, or is at a point in the kernel where it looks at its own stack
abbrev pub is_own_check : Event → Bool
is_own_check (Exit t) = true
is_own_check (Idle t) = true
is_own_check (Resched t) = true
is_own_check _ = false
