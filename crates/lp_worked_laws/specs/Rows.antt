-- Worked rows: short runs, and what the definitions make of them.
use Rattle.std.specs.Prelude.{◌≡◌, ℕ, true, false, List, [], ◌∷◌}
use Rattle.lp_stack.specs.declared.number.TaskId.{TaskId}
use Rattle.lp_stack.specs.declared.view.Class.{Class}
use Rattle.lp_stack.specs.declared.view.Class.TheVariants.{Normal, Idle}
use Rattle.lp_model.specs.declared.check.ForkKind.TheVariants.{Own, Share}
use Rattle.lp_model.specs.Rules.{Rules}
use Rattle.lp_definitions.specs.declared.event.Event.{Event}
use Rattle.lp_definitions.specs.declared.event.Event.TheVariants.{Call, Ret, Sleep, Wake, Enter, Exit, Idle, Die, Walk, Stop, Enable, Disable, Reverse}
use Rattle.lp_definitions.specs.declared.refusal.Refusal.{Refusal}
use Rattle.lp_definitions.specs.declared.refusal.Refusal.TheVariants.{StackNotEmpty, InTransition, NotInTransition, AlreadyThere}
use Rattle.lp_definitions.specs.declared.reply.What.TheVariants.{Ran, Done, Switched, Refused}
use Rattle.lp_definitions.specs.declared.reply.Reply.{Reply}
use Rattle.lp_definitions.specs.Events.{fork}
use Rattle.lp_definitions.specs.Run.{Run, first_leg, leg_of, replies}
use Rattle.lp_machine.specs.Machine.{answers}
use Rattle.lp_definitions.specs.Stays.{stack, stay_count, mixed_count}

-- ---- Words of the rows

abbrev pub a : ℕ
a = 0

abbrev pub b : ℕ
b = 1

abbrev pub c : ℕ
c = 2

abbrev pub task : ℕ → TaskId
task t = record { 0 = t }

abbrev pub normal : ℕ → TaskId × Class
normal t = (task t, Normal)

abbrev pub idler : ℕ → TaskId × Class
idler t = (task t, Idle)

abbrev pub call : ℕ → ℕ → Event
call t f = Call (task t) (record { 0 = f })

abbrev pub ret : ℕ → Event
ret t = Ret (task t)

abbrev pub sleep : ℕ → Event
sleep t = Sleep (task t)

abbrev pub wake : ℕ → Event
wake t = Wake (task t)

abbrev pub enter : ℕ → Event
enter t = Enter (task t)

abbrev pub exit : ℕ → Event
exit t = Exit (task t)

abbrev pub idle : ℕ → Event
idle t = Idle (task t)

abbrev pub die : ℕ → Event
die t = Die (task t)

abbrev pub done : Reply
done = record { what = Done; completed = false }

abbrev pub ran : ℕ → Reply
ran level = record { what = Ran (record { 0 = level }); completed = false }

abbrev pub over : ℕ → Reply
over group = record { what = Switched (group ∷ []); completed = false }

abbrev pub refused : Refusal → Reply
refused why = record { what = Refused why; completed = false }

abbrev pub complete : Reply → Reply
complete reply = record reply { completed = true }

-- tasks 1 to 9 may be there, and one patch, of function a
abbrev pub patch_a : List (TaskId × Class) → List Event → Run
patch_a boots events =
    record {
      bounds = record { symbols = 3; tasks = 9 };
      patches = (true ∷ false ∷ false ∷ []) ∷ [];
      boots = boots;
      events = events;
    }

-- the replies of a run, by the definitions and by the machine, how many stays it has, and how many of them are mixed
pub record Row (model : Rules) (run : Run) (given : List Reply) (stays mixed : ℕ) : Type 0 where
  pub by_definition : replies model (first_leg model run) run.events ≡ given
  pub by_machine : answers model (first_leg model run).opening run.events ≡ given
  pub stays_there : stay_count model (first_leg model run) run.events ≡ stays
  pub mixed_there : mixed_count model (first_leg model run) run.events ≡ mixed

-- ---- Runs

-- a task in a changed function leaves it, and then the kernel
abbrev pub leaves_the_kernel : Run
leaves_the_kernel =
    patch_a (normal 1 ∷ [])
    (enter 1 ∷ call 1 a ∷ Enable ∷ ret 1 ∷ exit 1 ∷ enter 1 ∷ call 1 a ∷ [])

-- a task sleeps in a changed function during a walk
abbrev pub sleeps_in_a_changed_function : Run
sleeps_in_a_changed_function =
    patch_a (normal 1 ∷ [])
    (enter 1 ∷ call 1 a ∷ sleep 1 ∷ Enable ∷ Walk ∷ wake 1 ∷ ret 1 ∷ exit 1 ∷ [])

-- a task sleeps in another function during a walk
abbrev pub sleeps_elsewhere : Run
sleeps_elsewhere =
    patch_a (normal 1 ∷ [])
    (enter 1 ∷ call 1 c ∷ sleep 1 ∷ Enable ∷ Walk ∷ [])

-- all CPUs are stopped while a task is in a changed function, and once more when it has left it
abbrev pub stops_twice : Run
stops_twice =
    patch_a (normal 1 ∷ normal 2 ∷ [])
    (enter 2 ∷ call 2 a ∷ Enable ∷ Stop ∷ ret 2 ∷ Stop ∷ [])

-- a task that has switched forks
abbrev pub forks_after_it_switched : Run
forks_after_it_switched =
    patch_a (normal 1 ∷ normal 2 ∷ [])
    (Enable ∷ enter 1 ∷ exit 1 ∷ enter 1 ∷ fork 1 3 Own ∷ call 3 a ∷ [])

-- a task that waits forks, and switches; its child doesn't
abbrev pub forks_while_it_waits : Run
forks_while_it_waits =
    patch_a (normal 1 ∷ [])
    (enter 1 ∷ Enable ∷ Walk ∷ fork 1 2 Own ∷ exit 1 ∷ call 2 a ∷ sleep 2 ∷ Walk ∷ [])

-- a transition is turned round before anybody switches
abbrev pub reverses_at_once : Run
reverses_at_once =
    patch_a (normal 1 ∷ [])
    (Enable ∷ Reverse ∷ [])

-- a transition is turned round after a task switched, which sleeps in a changed function
abbrev pub reverses_later : Run
reverses_later =
    patch_a (normal 1 ∷ normal 2 ∷ [])
    (Enable ∷ enter 1 ∷ exit 1 ∷ enter 1 ∷ call 1 a ∷ sleep 1 ∷ Reverse ∷ Walk ∷ [])

-- the last task that waits dies
abbrev pub dies_while_it_waits : Run
dies_while_it_waits =
    patch_a (normal 1 ∷ [])
    (enter 1 ∷ call 1 a ∷ Enable ∷ ret 1 ∷ die 1 ∷ [])

-- an idle task is at its point
abbrev pub idles : Run
idles =
    patch_a (idler 9 ∷ [])
    (Enable ∷ idle 9 ∷ [])

-- an idle task is said to be at its point, in a function
abbrev pub idles_in_a_function : Run
idles_in_a_function =
    patch_a (idler 9 ∷ [])
    (Enable ∷ call 9 a ∷ idle 9 ∷ [])

-- a task is walked in a changed function, and calls it again
abbrev pub calls_again_after_a_walk : Run
calls_again_after_a_walk =
    patch_a (normal 1 ∷ [])
    (enter 1 ∷ call 1 a ∷ Enable ∷ Walk ∷ call 1 a ∷ [])

-- control events where they don't fit
abbrev pub controls_out_of_turn : Run
controls_out_of_turn =
    patch_a (normal 1 ∷ [])
    (Reverse ∷ Disable ∷ Enable ∷ Enable ∷ Walk ∷ [])

-- no task is there
abbrev pub nobody_is_there : Run
nobody_is_there = patch_a [] (Enable ∷ [])

-- of two patches on one another the first has function a and the second b; a task sleeps in a
abbrev pub stacked : Run
stacked =
    record {
      bounds = record { symbols = 2; tasks = 1 };
      patches = (true ∷ false ∷ []) ∷ (false ∷ true ∷ []) ∷ [];
      boots = normal 1 ∷ [];
      events = Enable ∷ enter 1 ∷ exit 1 ∷ enter 1 ∷ call 1 a ∷ sleep 1 ∷ Enable ∷ Walk ∷ Disable ∷ Walk ∷ Disable ∷ Walk ∷ [];
    }

-- one thread of a process sleeps in a changed function while the other leaves the kernel
abbrev pub a_thread_sleeps : Run
a_thread_sleeps =
    patch_a (normal 1 ∷ [])
    (enter 1 ∷ fork 1 2 Share ∷ exit 1 ∷ call 2 a ∷ sleep 2 ∷ Enable ∷ Walk ∷ enter 1 ∷ exit 1 ∷ [])

-- both threads of a process have left the kernel, each by itself
abbrev pub threads_leave_one_by_one : Run
threads_leave_one_by_one =
    patch_a (normal 1 ∷ [])
    (enter 1 ∷ fork 1 2 Share ∷ exit 1 ∷ Enable ∷ call 2 a ∷ Walk ∷ ret 2 ∷ exit 2 ∷ Walk ∷ [])

-- ---- What they come to

-- under the five models that the rows speak of
pub record RowsCompute (hybrid leave_kernel all_at_once immediate process_group : Rules) : Type 0 where
  -- it switches at the exit, and then runs the new function
  pub leaving_switches :
      Row hybrid leaves_the_kernel
      (done ∷ ran 0 ∷ done ∷ done ∷ complete (over 1) ∷ done ∷ ran 1 ∷ []) 2 0
  -- its stack keeps it back until it has returned
  pub sleeper_blocks_until_it_returns :
      Row hybrid sleeps_in_a_changed_function
      (done ∷ ran 0 ∷ done ∷ done ∷ done ∷ done ∷ done ∷ complete (over 1) ∷ []) 1 0
  -- a model without walks waits for the exit alike
  pub sleeper_blocks_without_walks :
      Row leave_kernel sleeps_in_a_changed_function
      (done ∷ ran 0 ∷ done ∷ done ∷ done ∷ done ∷ done ∷ complete (over 1) ∷ []) 1 0
  -- its stack is free of changed functions, so the walk switches it
  pub sleeper_elsewhere_switches :
      Row hybrid sleeps_elsewhere
      (done ∷ ran 0 ∷ done ∷ done ∷ complete (over 1) ∷ []) 0 0
  -- but not under a model without walks
  pub sleeper_elsewhere_waits_without_walks :
      Row leave_kernel sleeps_elsewhere
      (done ∷ ran 0 ∷ done ∷ done ∷ done ∷ []) 0 0
  -- all switch at one stop, or none
  pub one_stack_blocks_all :
      Row all_at_once stops_twice
      (done ∷ ran 0 ∷ done ∷ done ∷ done ∷ complete (over 0) ∷ []) 1 0
  -- the child is born on the target
  pub child_inherits_the_new_level :
      Row hybrid forks_after_it_switched
      (done ∷ done ∷ over 1 ∷ done ∷ done ∷ ran 1 ∷ []) 1 0
  -- the child is born unpatched, and waits by itself
  pub child_inherits_the_old_level :
      Row hybrid forks_while_it_waits
      (done ∷ done ∷ done ∷ done ∷ over 1 ∷ ran 0 ∷ done ∷ done ∷ []) 1 0
  -- everybody is there already
  pub reversal_completes_at_once :
      Row hybrid reverses_at_once
      (done ∷ complete done ∷ []) 0 0
  -- who switched has to come back, and its stack keeps it
  pub reversal_waits_for_who_switched :
      Row hybrid reverses_later
      (done ∷ done ∷ over 1 ∷ done ∷ ran 1 ∷ done ∷ done ∷ done ∷ []) 1 0
  -- a death completes the transition
  pub death_completes :
      Row hybrid dies_while_it_waits
      (done ∷ ran 0 ∷ done ∷ done ∷ complete done ∷ []) 1 0
  -- the idle task switches at its point
  pub idle_point_switches :
      Row hybrid idles
      (done ∷ complete (over 9) ∷ []) 0 0
  -- where it is in a function the event is refused
  pub idle_point_needs_an_empty_stack :
      Row hybrid idles_in_a_function
      (done ∷ ran 0 ∷ refused StackNotEmpty ∷ []) 1 0
  -- without any condition a stay runs both sides
  pub immediate_mixes :
      Row immediate calls_again_after_a_walk
      (done ∷ ran 0 ∷ done ∷ complete (over 1) ∷ ran 1 ∷ []) 1 1
  -- each refusal has its reason
  pub control_refusals :
      Row hybrid controls_out_of_turn
      (refused NotInTransition ∷ refused AlreadyThere ∷ done ∷ refused InTransition ∷ done ∷ []) 0 0
  -- a transition of nobody is complete at once
  pub nobody_completes :
      Row hybrid nobody_is_there
      (complete done ∷ []) 0 0
  -- a frame of a is stale only where a's version changes: not from level 1 to 2 or back, but from 1 to 0
  pub version_counts_and_not_level :
      Row hybrid stacked
      (done ∷ done ∷ complete (over 1) ∷ done ∷ ran 1 ∷ done ∷ done ∷ complete (over 1) ∷ done ∷ complete (over 1) ∷ done ∷ done ∷ []) 1 0
  -- one thread's stack keeps the process back
  pub one_thread_blocks_its_process :
      Row process_group a_thread_sleeps
      (done ∷ done ∷ done ∷ ran 0 ∷ done ∷ done ∷ done ∷ done ∷ done ∷ []) 1 0
  -- an exit checks the group of a lone task only; the walk switches both
  pub exit_of_one_thread_is_no_check :
      Row process_group threads_leave_one_by_one
      (done ∷ done ∷ done ∷ done ∷ ran 0 ∷ done ∷ done ∷ done ∷ complete (over 1) ∷ []) 1 0
  -- a frame has the number of its event and the level of its task
  pub frame_of_a_call :
      stack hybrid (leg_of hybrid leaves_the_kernel) 1
      ≡ (record { func = record { 0 = a }; level = record { 0 = 1 }; serial = 7 }) ∷ []
  pub frame_of_an_earlier_call :
      stack hybrid (leg_of hybrid idles_in_a_function) 9
      ≡ (record { func = record { 0 = a }; level = record { 0 = 0 }; serial = 2 }) ∷ []
