-- The kernel, told by an engine: all that it keeps is where the engine stands, and klp_target_state.
use Rattle.std.specs.Prelude.{◌≡◌, ℕ, zero, suc, Bool, true, false, ◌&&◌, List, [], ◌∷◌, if◌then◌else◌, nat_lt}
use Rattle.lp_patch.specs.Patches.{Patches, patch_has}
use Rattle.lp_model.specs.Row.{rules_of}
use Rattle.lp_models.specs.Models.{hybrid}
use Rattle.lp_definitions.specs.declared.event.Event.{Event}
use Rattle.lp_definitions.specs.declared.event.Event.TheVariants.{Walk}
use Rattle.lp_definitions.specs.Tasks.{map_live}
use Rattle.lp_definitions.specs.Leg.{State}
use Rattle.lp_machine.specs.Machine.{complete_in}
use Rattle.lp_definitions.specs.Run.{Run}
use Rattle.lp_machine.specs.Steps.{StandsIn}
use Rattle.lp_linux.specs.declared.follow.TargetState.{TargetState}
use Rattle.lp_linux.specs.declared.follow.TargetState.TheVariants.{Undefined, Patched, Unpatched}
use Rattle.lp_linux.specs.Transition.{Release, PatchState, KLP_UNDEFINED, KLP_UNPATCHED, KLP_PATCHED, Livepatch, Linux}
use Rattle.lp_linux.specs.Events.{AreOf, boot}
use Rattle.lp_linux.specs.Reading.{heard_late, heard, task_of}
use Rattle.lp_linux.specs.Laws.{kernel_after}

-- ops->func_stack of a function, with the patches up to a level in place
abbrev pub stack_of : Patches → ℕ → ℕ → List ℕ
stack_of patches zero func = []
stack_of patches (suc below) func =
    if patch_has patches (suc below) func then suc below ∷ stack_of patches below func else stack_of patches below func

abbrev pub klp_of : TargetState → State → Livepatch
klp_of Undefined s =
    record { patches = s.patches; in_place = s.target; func_stack = stack_of s.patches s.target; klp_transition_patch = 0; klp_target_state = KLP_UNDEFINED }
klp_of Patched s =
    record { patches = s.patches; in_place = suc s.from; func_stack = stack_of s.patches (suc s.from); klp_transition_patch = suc s.from; klp_target_state = KLP_PATCHED }
klp_of Unpatched s =
    record { patches = s.patches; in_place = suc s.target; func_stack = stack_of s.patches (suc s.target); klp_transition_patch = suc s.target; klp_target_state = KLP_UNPATCHED }

-- the kernel, where the engine stands in a state and klp_target_state is this
abbrev pub linux_of : TargetState → State → Linux
linux_of target_state s =
    record { bounds = s.bounds; klp = klp_of target_state s; tasks = λ t. map_live (task_of (klp_of target_state s) s.target) (s.tasks t) }

-- after the events of a run of a release's kernel an engine that heard them stands in the state, and the kernel is as it and
-- klp_target_state say
pub record IsKernel (release : Release) (r : Run) (target_state : TargetState) (s : State) : Type 0 where
  pub events : AreOf release r.events
  pub stands : StandsIn (rules_of hybrid) (record r { events = heard release (boot r.bounds r.patches r.boots) r.events }) s
  pub kernel : kernel_after release r ≡ linux_of target_state s

-- so it is before the first event
pub record StartsSettled : Type 0 where
  pub starts :
      (release : Release) (r : Run) (s : State) → r.events ≡ [] → StandsIn (rules_of hybrid) r s → IsKernel release r Undefined s

-- ---- klp_target_state

-- a transition is under way
abbrev pub is_moving : TargetState → Bool
is_moving Undefined = false
is_moving Patched = true
is_moving Unpatched = true

abbrev pub patch_state_of : TargetState → PatchState
patch_state_of Undefined = KLP_UNDEFINED
patch_state_of Patched = KLP_PATCHED
patch_state_of Unpatched = KLP_UNPATCHED

-- an event as an engine hears it that stands in the state
abbrev pub heard_in : TargetState → State → Event → Event
heard_in target_state s event = if is_moving target_state && complete_in s then heard_late (patch_state_of target_state) event else event

abbrev pub is_walk : Event → Bool
is_walk Walk = true
is_walk _ = false

-- after an event, a walk or not, at which the engine went from one target level to another, and whether its leg is complete then
abbrev pub target_state_after : TargetState → Bool → ℕ → ℕ → Bool → TargetState
target_state_after target_state walk before after complete =
    if nat_lt before after then Patched
    else if nat_lt after before then Unpatched
    else if walk && complete then Undefined
    else target_state
