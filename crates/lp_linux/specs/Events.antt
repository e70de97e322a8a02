-- Which of the kernel's functions an event calls, and what comes of a list of events. `Walk` is the work of a transition, wherever
-- it is called from; the task that does it is taken off its CPU before (`Sleep`) and put back after (`Wake`).
use Rattle.std.specs.Prelude.{ℕ, pred, Bool, true, false, not, List, [], ◌∷◌, ◌++◌, length, take, All, Option, Some, None, IsTrue, if◌then◌else◌, nat_eq}
use Rattle.lp_stack.specs.declared.number.TaskId.{TaskId}
use Rattle.lp_stack.specs.declared.view.Mode.TheVariants.{User, Kernel, Asleep}
use Rattle.lp_stack.specs.declared.view.Class.{Class}
use Rattle.lp_stack.specs.declared.view.Class.TheVariants.{Normal}
use Rattle.lp_patch.specs.Patches.{Patches}
use Rattle.lp_definitions.specs.declared.event.Event.{Event}
use Rattle.lp_definitions.specs.declared.event.Event.TheVariants.{Call, Ret, Sleep, Wake, Enter, Exit, Idle, Resched, Fork, Die, Walk, Stop, Enable, Disable, Reverse}
use Rattle.lp_definitions.specs.declared.refusal.Refusal.{Refusal}
use Rattle.lp_definitions.specs.declared.refusal.Refusal.TheVariants.{InTransition, NotInTransition, AlreadyThere}
use Rattle.lp_definitions.specs.Tasks.{Unused, Live, Dead, map_live, fits, first_of, Bounds, change}
use Rattle.lp_definitions.specs.Run.{first_mode}
use Rattle.lp_linux.specs.OwnEvents.{own_tests}
use Rattle.lp_linux.specs.Transition.{Release, Linux_6_1, Linux_6_12, KLP_UNDEFINED, Entry, TaskStruct, Livepatch, TaskList, Linux, klp_ftrace_handler, klp_update_patch_state, klp_reverse_transition, klp_sched_try_switch, klp_transition_work_fn, klp_copy_process, klp_enable_patch, klp_disable_patch}

-- exit_to_user_mode_loop and do_idle: if (klp_patch_pending(current)) klp_update_patch_state(current)
abbrev pub if_pending : Livepatch → TaskStruct → TaskStruct
if_pending klp task = if task.TIF_PATCH_PENDING then klp_update_patch_state klp task else task

-- cond_resched: 6.1 looks at nothing there
abbrev pub cond_resched : Release → Livepatch → TaskStruct → TaskStruct
cond_resched Linux_6_1 klp current = current
cond_resched Linux_6_12 klp current = klp_sched_try_switch klp current

-- what copy_process has made before it calls klp_copy_process
abbrev pub born : TaskStruct
born = record { class = Normal; mode = Kernel; stack = []; patch_state = KLP_UNDEFINED; TIF_PATCH_PENDING = false }

abbrev pub calls : Livepatch → ℕ → TaskStruct → TaskStruct
calls klp func task =
    let entry : Entry = record { func = func; version = klp_ftrace_handler klp task func } in
    record task { stack = task.stack ++ entry ∷ [] }

abbrev pub on_task : ℕ → (TaskStruct → TaskStruct) → Linux → Linux
on_task t body m = record m { tasks = change t body m.tasks }

-- what an accepted event does
abbrev pub happen : Release → Event → Linux → Linux
happen release (Call t f) m = on_task t.0 (calls m.klp f.0) m
happen release (Ret t) m = on_task t.0 (λ task. record task { stack = take (pred (length task.stack)) task.stack }) m
happen release (Sleep t) m = on_task t.0 (λ task. record task { mode = Asleep }) m
happen release (Wake t) m = on_task t.0 (λ task. record task { mode = Kernel }) m
happen release (Enter t) m = on_task t.0 (λ task. record task { mode = Kernel }) m
happen release (Exit t) m = on_task t.0 (λ task. record (if_pending m.klp task) { mode = User }) m
happen release (Idle t) m = on_task t.0 (if_pending m.klp) m
happen release (Resched t) m = on_task t.0 (cond_resched release m.klp) m
happen release (Fork p c how) m =
    record m { tasks = λ u. if nat_eq u c.0 then map_live (λ current. klp_copy_process current born) (m.tasks p.0) else m.tasks u }
happen release (Die t) m = record m { tasks = λ u. if nat_eq u t.0 then Dead else m.tasks u }
happen release Walk m = klp_transition_work_fn m
happen release Stop m = m
happen release Enable m = klp_enable_patch m
happen release Disable m = klp_disable_patch m
happen release Reverse m = klp_reverse_transition release m

-- `Enable` is the loading of the next patch (klp_enable_patch), `Disable` a write of 0 to the `enabled` of a patch that isn't in transition
-- (__klp_disable_patch), `Reverse` a write that turns the `enabled` of the one that is (enabled_store). The first two are -EBUSY
-- while klp_transition_patch is set; AlreadyThere says that there is no patch to load, or none in place. Without a transition
-- there is nothing to turn, and enabled_store returns -EINVAL
abbrev pub control_tests : Livepatch → Event → List (Option Refusal)
control_tests klp Enable =
    fits (not (nat_eq klp.klp_transition_patch 0)) InTransition ∷ fits (nat_eq klp.in_place (length klp.patches)) AlreadyThere ∷ []
control_tests klp Disable =
    fits (not (nat_eq klp.klp_transition_patch 0)) InTransition ∷ fits (nat_eq klp.in_place 0) AlreadyThere ∷ []
control_tests klp Reverse = fits (nat_eq klp.klp_transition_patch 0) NotInTransition ∷ []
control_tests klp _ = []

unfoldable pub refusal : Linux → Event → Option Refusal
refusal m event = first_of (own_tests m.bounds m.tasks event ++ control_tests m.klp event)

abbrev pub unless : Option Refusal → Linux → Linux → Linux
unless None m now = now
unless (Some why) m now = m

-- the kernel after an event, and after a list of events
unfoldable pub step : Release → Linux → Event → Linux
step release m event = unless (refusal m event) m (happen release event m)

unfoldable pub run : Release → Linux → List Event → Linux
run release m [] = m
run release m (event ∷ events) = run release (step release m event) events

-- the events of a release: those of 6.1 have no check at cond_resched
abbrev pub has : Release → Event → Bool
has Linux_6_1 (Resched t) = false
has Linux_6_1 _ = true
has Linux_6_12 _ = true

abbrev pub AreOf : Release → List Event → Type 0
AreOf release events = All (λ event. IsTrue (has release event)) events

-- ---- The start: no patch is in place, and no stack has an entry

abbrev pub booted : List (TaskId × Class) → TaskList
booted [] t = Unused
booted (boot ∷ boots) t =
    if nat_eq t boot.0.0 then Live (record born { class = boot.1; mode = first_mode boot.1 }) else booted boots t

abbrev pub boot : Bounds → Patches → List (TaskId × Class) → Linux
boot bounds patches boots =
    record {
      bounds = bounds;
      klp = record { patches = patches; in_place = 0; func_stack = λ func. []; klp_transition_patch = 0; klp_target_state = KLP_UNDEFINED };
      tasks = booted boots;
    }
