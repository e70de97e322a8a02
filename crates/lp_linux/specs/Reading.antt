-- How the events of the kernel are read as events of the engine, and what of the kernel's state stands for what of a leg.
use Rattle.std.specs.Prelude.{◌≡◌, ◌⊎◌, ℕ, suc, Bool, false, not, ◌&&◌, List, [], ◌∷◌, map, IsTrue, IsFalse, if◌then◌else◌, nat_eq}
use Rattle.std.specs.List.{list_any}
use Rattle.lp_stack.specs.declared.view.Mode.TheVariants.{Asleep}
use Rattle.lp_stack.specs.declared.frame.Frame.{Frame}
use Rattle.lp_patch.specs.Patches.{Patches, Aim, version, is_stale}
use Rattle.lp_definitions.specs.declared.event.Event.{Event}
use Rattle.lp_definitions.specs.declared.event.Event.TheVariants.{Enable, Disable, Reverse}
use Rattle.lp_definitions.specs.declared.reply.What.{What}
use Rattle.lp_definitions.specs.declared.reply.What.TheVariants.{Switched}
use Rattle.lp_definitions.specs.Events.{is_control}
use Rattle.lp_definitions.specs.Tasks.{Live, same_mode}
use Rattle.lp_definitions.specs.Leg.{LegTask, each_live}
use Rattle.lp_machine.specs.Machine.{LegTasks}
use Rattle.lp_linux.specs.Transition.{Release, PatchState, KLP_UNDEFINED, KLP_UNPATCHED, KLP_PATCHED, same_state, opposite, Entry, TaskStruct, Livepatch, Linux, Code, OK, EBUSY, EADDRINUSE}
use Rattle.lp_linux.specs.Events.{step}

-- ---- Events

-- klp_transition_patch is set, but no task is pending any more: the transition awaits the walk that completes it. By the definitions
-- it is complete already
abbrev pub awaits_walk : Linux → Bool
awaits_walk m = not (nat_eq m.klp.klp_transition_patch 0) && each_live m.bounds m.tasks (λ t task. not task.TIF_PATCH_PENDING)

-- in that time the kernel still turns the transition round, and refuses any other: for the engine this opens a leg back, and the
-- other is refused as what it can't do in this time, a reversal
abbrev pub heard_late : PatchState → Event → Event
heard_late target Enable = Reverse
heard_late target Disable = Reverse
heard_late target Reverse = if same_state target KLP_PATCHED then Disable else Enable
heard_late target event = event

-- the event as the engine hears it; for the most part the event itself
abbrev pub heard_as : Linux → Event → Event
heard_as m event = if awaits_walk m then heard_late m.klp.klp_target_state event else event

-- a list of the kernel's events as the engine hears it
unfoldable pub heard : Release → Linux → List Event → List Event
heard release m [] = []
heard release m (event ∷ events) = heard_as m event ∷ heard release (step release m event) events

-- no write and no loading falls into such a time
unfoldable pub NoneLate : Release → Linux → List Event → Type 0
NoneLate release m [] = Unit {0}
NoneLate release m (event ∷ events) =
    (IsTrue (awaits_walk m) → IsFalse (is_control event)) × NoneLate release (step release m event) events

-- ---- States

-- the address that a frame stands for
abbrev pub entry_of : Patches → Frame → Entry
entry_of patches frame = record { func = frame.func.0; version = version patches frame.func.0 frame.level.0 }

-- the task that one on a level stands for, as the transition heads for this level: its flag is set where it is off the target, and its
-- patch state is the target's where it is on it
abbrev pub task_of : Livepatch → ℕ → LegTask → TaskStruct
task_of klp target x =
    record {
      class = x.class;
      mode = x.mode;
      stack = map (entry_of klp.patches) x.frames;
      patch_state = if nat_eq x.level target then klp.klp_target_state else opposite klp.klp_target_state;
      TIF_PATCH_PENDING = not (nat_eq x.level target);
    }

-- what klp_target_state and klp_transition_patch say of a leg from one level to another: no transition, and each task is on the
-- target; a patch more; or a patch less
pub data Heads (klp : Livepatch) (from target : ℕ) (tasks : LegTasks) : Type 0 where
  Nowhere :
      klp.klp_target_state ≡ KLP_UNDEFINED → klp.klp_transition_patch ≡ 0 → klp.in_place ≡ target →
      ((t : ℕ) (x : LegTask) → tasks t ≡ Live x → x.level ≡ target) →
      Heads klp from target tasks
  Up :
      klp.klp_target_state ≡ KLP_PATCHED → klp.klp_transition_patch ≡ suc from → klp.in_place ≡ suc from → target ≡ suc from →
      ((t : ℕ) (x : LegTask) → tasks t ≡ Live x → x.level ≡ target ⊎ x.level ≡ from) →
      Heads klp from target tasks
  Down :
      klp.klp_target_state ≡ KLP_UNPATCHED → klp.klp_transition_patch ≡ suc target → klp.in_place ≡ suc target → from ≡ suc target →
      ((t : ℕ) (x : LegTask) → tasks t ≡ Live x → x.level ≡ target ⊎ x.level ≡ from) →
      Heads klp from target tasks

-- what klp_try_switch_task returns for the task that runs it, by the words of the definitions: its stack alone counts
abbrev pub own_code_of : Aim → LegTask → Code
own_code_of aim x =
    if nat_eq x.level aim.target then OK
    else if list_any (is_stale aim) x.frames then EADDRINUSE
    else OK

-- what it returns for another task: one on a CPU is busy, whatever its stack
abbrev pub code_of : Aim → LegTask → Code
code_of aim x =
    if nat_eq x.level aim.target then OK
    else if not (same_mode x.mode Asleep) then EBUSY
    else if list_any (is_stale aim) x.frames then EADDRINUSE
    else OK

-- a reply says that the group switches
abbrev pub names : What → ℕ → Bool
names (Switched groups) group = list_any (nat_eq group) groups
names _ group = false
