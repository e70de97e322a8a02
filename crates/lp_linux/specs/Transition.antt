-- kernel/livepatch/transition.c of Linux 6.1 and of 6.12, with what patch.c and core.c have of it, function by function and in the
-- kernel's names. Where the two differ a function has the release as an argument. A function is one step here: no locks, no
-- barriers, no klp_synchronize_transition. Left out as well: modules, callbacks and `replace`; signals and `force`; CPUs that are
-- offline; stacks that aren't reliable.
use Rattle.std.specs.Prelude.{ℕ, zero, suc, pred, Bool, true, false, not, ◌&&◌, List, [], ◌∷◌, length, if◌then◌else◌, nat_eq, slice_index_or}
use Rattle.std.specs.List.{list_any, range_with_len}
use Rattle.lp_stack.specs.declared.view.Mode.{Mode}
use Rattle.lp_stack.specs.declared.view.Mode.TheVariants.{Asleep}
use Rattle.lp_stack.specs.declared.view.Class.{Class}
use Rattle.lp_stack.specs.declared.view.Class.TheVariants.{Normal, Idle}
use Rattle.lp_patch.specs.Patches.{Patches, patch_has}
use Rattle.lp_definitions.specs.Tasks.{Fate, on_live, same_mode, same_class, Bounds, change}

pub data Release : Type 0 where
  Linux_6_1 : Release
  Linux_6_12 : Release

-- the values of task->patch_state, and of klp_target_state
pub data PatchState : Type 0 where
  KLP_UNDEFINED : PatchState
  KLP_UNPATCHED : PatchState
  KLP_PATCHED : PatchState

abbrev pub same_state : PatchState → PatchState → Bool
same_state KLP_UNDEFINED KLP_UNDEFINED = true
same_state KLP_UNPATCHED KLP_UNPATCHED = true
same_state KLP_PATCHED KLP_PATCHED = true
same_state _ _ = false

-- `!state`
abbrev pub opposite : PatchState → PatchState
opposite KLP_UNDEFINED = KLP_UNDEFINED
opposite KLP_UNPATCHED = KLP_PATCHED
opposite KLP_PATCHED = KLP_UNPATCHED

-- an entry of a stack, as far as its address tells: a function, and which of its versions it lies in, old_func (0) or the new_func
-- of the patch with this number
pub record Entry : Type 0 where
  pub func : ℕ
  pub version : ℕ

-- struct task_struct. A kernel thread is Normal, the idle task of a CPU Idle. The entries stand in the order of their calls
pub record TaskStruct : Type 0 where
  pub class : Class
  pub mode : Mode
  pub stack : List Entry
  pub patch_state : PatchState
  pub TIF_PATCH_PENDING : Bool

-- on a CPU: it runs in user space or in the kernel
abbrev pub task_curr : TaskStruct → Bool
task_curr task = not (same_mode task.mode Asleep)

-- what the kernel keeps of patches. They are numbered from 1 in the order in which they are loaded, so 0 is NULL. `in_place` is the last
-- whose functions are on the func_stacks. ops->func_stack has, for each function, the patches in place with a func of it, the first
-- of the list in front; a func is known by its patch and its function
pub record Livepatch : Type 0 where
  pub patches : Patches
  pub in_place : ℕ
  pub func_stack : ℕ → List ℕ
  pub klp_transition_patch : ℕ
  pub klp_target_state : PatchState

abbrev pub TaskList : Type 0
TaskList = ℕ → Fate TaskStruct

pub record Linux : Type 0 where
  pub bounds : Bounds
  pub klp : Livepatch
  pub tasks : TaskList

-- ---- Loops: for_each_process_thread, and for_each_possible_cpu with idle_task(cpu)

abbrev pub if_of : Class → (TaskStruct → TaskStruct) → TaskStruct → TaskStruct
if_of class body task = if same_class task.class class then body task else task

abbrev pub for_each : Class → (TaskStruct → TaskStruct) → ℕ → TaskList → TaskList
for_each class body zero tasks = tasks
for_each class body (suc last) tasks = change (suc last) (if_of class body) (for_each class body last tasks)

-- both loops, over threads and then over idle tasks. No iteration looks at another's task, so their order makes no difference
abbrev pub all_tasks : (TaskStruct → TaskStruct) → Linux → Linux
all_tasks body m = record m { tasks = for_each Idle body m.bounds.tasks (for_each Normal body m.bounds.tasks m.tasks) }

-- ---- patch.c

-- the first entry of a func_stack, and what follows it; where there is none, 0, the original
abbrev pub first : List ℕ → ℕ
first [] = 0
first (patch ∷ below) = patch

abbrev pub below_first : List ℕ → List ℕ
below_first [] = []
below_first (patch ∷ below) = below

-- func->transition of a patch's funcs: klp_init_transition sets it, and klp_complete_transition clears it
abbrev pub func_transition : Livepatch → ℕ → Bool
func_transition klp patch = nat_eq patch klp.klp_transition_patch

-- which version a call runs: the first func's, or the next one's where that is in transition and `current` is unpatched
abbrev pub klp_ftrace_handler : Livepatch → TaskStruct → ℕ → ℕ
klp_ftrace_handler klp current func =
    let stack = klp.func_stack func in
    if func_transition klp (first stack) && same_state current.patch_state KLP_UNPATCHED then first (below_first stack) else first stack

-- klp_patch_func and klp_unpatch_func of each func of the patch
abbrev pub klp_patch_object : ℕ → Livepatch → Livepatch
klp_patch_object patch klp =
    record klp {
      in_place = patch;
      func_stack = λ func. if patch_has klp.patches patch func then patch ∷ klp.func_stack func else klp.func_stack func;
    }

abbrev pub klp_unpatch_object : ℕ → Livepatch → Livepatch
klp_unpatch_object patch klp =
    record klp {
      in_place = pred patch;
      func_stack = λ func. if patch_has klp.patches patch func then below_first (klp.func_stack func) else klp.func_stack func;
    }

-- ---- transition.c

abbrev pub klp_init_transition : ℕ → PatchState → Linux → Linux
klp_init_transition patch state m =
    let now = record m { klp = record m.klp { klp_transition_patch = patch; klp_target_state = state } } in
    all_tasks (λ task. record task { patch_state = opposite state }) now

abbrev pub klp_start_transition : Linux → Linux
klp_start_transition m =
    all_tasks (λ task. if same_state task.patch_state m.klp.klp_target_state then task else record task { TIF_PATCH_PENDING = true }) m

-- klp_target_state = !klp_target_state
abbrev pub turn_target : Linux → Linux
turn_target m = record m { klp = record m.klp { klp_target_state = opposite m.klp.klp_target_state } }

abbrev pub clear_flags : Linux → Linux
clear_flags m = all_tasks (λ task. record task { TIF_PATCH_PENDING = false }) m

-- 6.1 turns the target and then clears the flags. 6.12 clears them first, so that no task goes over meanwhile
abbrev pub klp_reverse_transition : Release → Linux → Linux
klp_reverse_transition Linux_6_1 m = klp_start_transition (clear_flags (turn_target m))
klp_reverse_transition Linux_6_12 m = klp_start_transition (turn_target (clear_flags m))

abbrev pub klp_update_patch_state : Livepatch → TaskStruct → TaskStruct
klp_update_patch_state klp task =
    if task.TIF_PATCH_PENDING then record task { TIF_PATCH_PENDING = false; patch_state = klp.klp_target_state } else task

-- whether it returns -EAGAIN: an entry lies in the to-be-unpatched new_func, or in the to-be-patched function, which is the original
-- where the func_stack is singular
abbrev pub klp_check_stack_func : Livepatch → ℕ → List Entry → Bool
klp_check_stack_func klp func entries =
    let patch = klp.klp_transition_patch in
    let version = if same_state klp.klp_target_state KLP_UNPATCHED then patch else first (below_first (klp.func_stack func)) in
    list_any (λ entry. nat_eq entry.func func && nat_eq entry.version version) entries

-- whether it returns -EADDRINUSE, for some func of the patch in transition
abbrev pub klp_check_stack : Livepatch → List Entry → Bool
klp_check_stack klp entries =
    let patch = klp.klp_transition_patch in
    list_any (λ func. patch_has klp.patches patch func && klp_check_stack_func klp func entries)
    (range_with_len 0 (length (slice_index_or klp.patches (pred patch) [])))

-- what a function returns, and the task after it
pub data Code : Type 0 where
  OK : Code
  EBUSY : Code
  EADDRINUSE : Code

pub record Tried : Type 0 where
  pub code : Code
  pub task : TaskStruct

abbrev pub is_ok : Code → Bool
is_ok OK = true
is_ok _ = false

-- the first argument is `task == current`. In a walk it is so of no task: the one that walks is off its CPU meanwhile, by the
-- events (Events.antt)
abbrev pub klp_check_and_switch_task : Bool → Livepatch → TaskStruct → Tried
klp_check_and_switch_task is_current klp task =
    if not is_current && task_curr task then record { code = EBUSY; task = task }
    else if klp_check_stack klp task.stack then record { code = EADDRINUSE; task = task }
    else record { code = OK; task = record task { TIF_PATCH_PENDING = false; patch_state = klp.klp_target_state } }

abbrev pub klp_try_switch_task : Bool → Livepatch → TaskStruct → Tried
klp_try_switch_task is_current klp task =
    if same_state task.patch_state klp.klp_target_state then record { code = OK; task = task }
    else klp_check_and_switch_task is_current klp task

-- __klp_sched_try_switch, of 6.12 alone: the task that runs tries itself, if it is pending
abbrev pub klp_sched_try_switch : Livepatch → TaskStruct → TaskStruct
klp_sched_try_switch klp current =
    if current.TIF_PATCH_PENDING then (klp_try_switch_task true klp current).task else current

-- the two loops of klp_try_complete_transition, each over the tasks of a class, with its local variable `complete`
pub record Walked : Type 0 where
  pub tasks : TaskList
  pub complete : Bool

abbrev pub try_of : Livepatch → Class → TaskStruct → Tried
try_of klp class task = if same_class task.class class then klp_try_switch_task false klp task else record { code = OK; task = task }

abbrev pub try_each : Livepatch → Class → ℕ → Walked → Walked
try_each klp class zero walked = walked
try_each klp class (suc last) walked =
    let now = try_each klp class last walked in
    record {
      tasks = change (suc last) (λ task. (try_of klp class task).task) now.tasks;
      complete = now.complete && on_live true (λ task. is_ok (try_of klp class task).code) (now.tasks (suc last));
    }

abbrev pub klp_complete_transition : Linux → Linux
klp_complete_transition m =
    let left = if same_state m.klp.klp_target_state KLP_UNPATCHED then klp_unpatch_object m.klp.klp_transition_patch m.klp else m.klp in
    let now = record m { klp = record left { klp_transition_patch = 0; klp_target_state = KLP_UNDEFINED } } in
    all_tasks (λ task. record task { patch_state = KLP_UNDEFINED }) now

abbrev pub klp_try_complete_transition : Linux → Linux
klp_try_complete_transition m =
    let threads = try_each m.klp Normal m.bounds.tasks (record { tasks = m.tasks; complete = true }) in
    let all = try_each m.klp Idle m.bounds.tasks threads in
    let now = record m { tasks = all.tasks } in
    if all.complete then klp_complete_transition now else now

abbrev pub klp_transition_work_fn : Linux → Linux
klp_transition_work_fn m = if nat_eq m.klp.klp_transition_patch 0 then m else klp_try_complete_transition m

abbrev pub klp_copy_process : TaskStruct → TaskStruct → TaskStruct
klp_copy_process current child =
    record child { patch_state = current.patch_state; TIF_PATCH_PENDING = current.TIF_PATCH_PENDING }

-- ---- core.c

-- __klp_enable_patch of the next patch, and __klp_disable_patch of the last one in place, up to klp_try_complete_transition, with which
-- both end: that is the event `Walk` after this one
abbrev pub klp_enable_patch : Linux → Linux
klp_enable_patch m =
    let patch = suc m.klp.in_place in
    let now = klp_init_transition patch KLP_PATCHED m in
    klp_start_transition (record now { klp = klp_patch_object patch now.klp })

abbrev pub klp_disable_patch : Linux → Linux
klp_disable_patch m = klp_start_transition (klp_init_transition m.klp.in_place KLP_UNPATCHED m)
