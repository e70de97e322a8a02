-- Worked rows: what the kernel's procedure makes of short runs of one patch, of function a.
use Rattle.std.specs.Prelude.{◌≡◌, ℕ, Bool, true, false, List, [], ◌∷◌, Some, None}
use Rattle.std.specs.List.{filter_map, range_with_len}
use Rattle.lp_stack.specs.declared.number.TaskId.{TaskId}
use Rattle.lp_stack.specs.declared.view.Class.TheVariants.{Normal}
use Rattle.lp_model.specs.declared.check.ForkKind.TheVariants.{Own}
use Rattle.lp_definitions.specs.declared.event.Event.{Event}
use Rattle.lp_definitions.specs.declared.event.Event.TheVariants.{Call, Ret, Sleep, Enter, Exit, Resched, Walk, Enable, Disable, Reverse}
use Rattle.lp_definitions.specs.Events.{fork}
use Rattle.lp_definitions.specs.Tasks.{on_live}
use Rattle.lp_linux.specs.Transition.{Release, Linux_6_1, Linux_6_12, PatchState, KLP_UNDEFINED, KLP_UNPATCHED, KLP_PATCHED, Linux, Code, EBUSY, EADDRINUSE, klp_try_switch_task}
use Rattle.lp_linux.specs.Events.{step, boot}
use Rattle.lp_linux.specs.Reading.{heard}

abbrev pub task : ℕ → TaskId
task t = record { 0 = t }

abbrev pub call : ℕ → Event
call t = Call (task t) (record { 0 = 0 })

-- two tasks, in user space
abbrev pub at_boot : Linux
at_boot =
    boot (record { symbols = 1; tasks = 3 }) ((true ∷ []) ∷ []) ((task 1, Normal) ∷ (task 2, Normal) ∷ [])

-- klp_transition_patch, and patch state and flag of each live task
abbrev pub Shown : Type 0
Shown = ℕ × List (PatchState × Bool)

abbrev pub shown : Linux → Shown
shown m =
    (m.klp.klp_transition_patch, filter_map (λ t. on_live None (λ x. Some (x.patch_state, x.TIF_PATCH_PENDING)) (m.tasks t)) (range_with_len 1 3))

-- after each event
abbrev pub shown_after : Release → Linux → List Event → List Shown
shown_after release m [] = []
shown_after release m (event ∷ events) = shown (step release m event) ∷ shown_after release (step release m event) events

-- what a walk would return for each live task
abbrev pub codes : Linux → List Code
codes m = filter_map (λ t. on_live None (λ x. Some (klp_try_switch_task false m.klp x).code) (m.tasks t)) (range_with_len 1 3)

-- settled; waiting for the patch; on it
abbrev pub none : PatchState × Bool
none = (KLP_UNDEFINED, false)

abbrev pub waits : PatchState × Bool
waits = (KLP_UNPATCHED, true)

abbrev pub patched : PatchState × Bool
patched = (KLP_PATCHED, false)

-- waiting to be without the patch; without it
abbrev pub waits_back : PatchState × Bool
waits_back = (KLP_PATCHED, true)

abbrev pub back : PatchState × Bool
back = (KLP_UNPATCHED, false)

-- task 1 leaves the kernel, task 2 sleeps and is walked, and the walk completes
abbrev pub leaving : List Event
leaving = Enter (task 1) ∷ Enter (task 2) ∷ Sleep (task 2) ∷ Enable ∷ Exit (task 1) ∷ Walk ∷ []

-- both are patched after event 5, and the walk comes after the reversal: the kernel turns the transition, the engine hears a disabling
abbrev pub late : List Event
late = Enable ∷ Enter (task 1) ∷ Exit (task 1) ∷ Enter (task 2) ∷ Exit (task 2) ∷ Enable ∷ Reverse ∷ []

-- task 1 sleeps in a, task 2 is in a on a CPU and forks task 3
abbrev pub stuck : List Event
stuck =
    Enter (task 1) ∷ call 1 ∷ Sleep (task 1) ∷ Enter (task 2) ∷ call 2 ∷ Enable ∷ fork 2 3 Own ∷ Walk ∷ []

-- task 1 is in a on a CPU and task 2 in nothing, and both check themselves; a walk finds them over, or busy
abbrev pub checking : List Event
checking =
    Enter (task 1) ∷ call 1 ∷ Enter (task 2) ∷ Enable ∷ Resched (task 1) ∷ Resched (task 2) ∷ Ret (task 1) ∷ Resched (task 1) ∷ Walk ∷ []

abbrev pub after : Release → Linux → List Event → Linux
after release m [] = m
after release m (event ∷ events) = after release (step release m event) events

pub record LinuxComputes : Type 0 where
  pub leaving_switches :
      shown_after Linux_6_1 at_boot leaving
      ≡ (0, none ∷ none ∷ []) ∷ (0, none ∷ none ∷ []) ∷ (0, none ∷ none ∷ []) ∷ (1, waits ∷ waits ∷ [])
      ∷ (1, patched ∷ waits ∷ []) ∷ (0, none ∷ none ∷ []) ∷ []
  pub late_turns :
      (release : Release) →
      shown_after release at_boot late
      ≡ (1, waits ∷ waits ∷ []) ∷ (1, waits ∷ waits ∷ []) ∷ (1, patched ∷ waits ∷ []) ∷ (1, patched ∷ waits ∷ [])
      ∷ (1, patched ∷ patched ∷ []) ∷ (1, patched ∷ patched ∷ []) ∷ (1, waits_back ∷ waits_back ∷ []) ∷ []
  pub late_is_heard :
      heard Linux_6_1 at_boot late
      ≡ Enable ∷ Enter (task 1) ∷ Exit (task 1) ∷ Enter (task 2) ∷ Exit (task 2) ∷ Reverse ∷ Disable ∷ []
  pub stuck_waits : shown (after Linux_6_1 at_boot stuck) ≡ (1, waits ∷ waits ∷ waits ∷ [])
  pub busy_comes_first : codes (after Linux_6_1 at_boot stuck) ≡ EADDRINUSE ∷ EBUSY ∷ EBUSY ∷ []
  -- 6.12: the first check finds a on the stack, though the task is on a CPU; the walk completes
  pub own_checks_switch :
      shown_after Linux_6_12 at_boot checking
      ≡ (0, none ∷ none ∷ []) ∷ (0, none ∷ none ∷ []) ∷ (0, none ∷ none ∷ []) ∷ (1, waits ∷ waits ∷ [])
      ∷ (1, waits ∷ waits ∷ []) ∷ (1, waits ∷ patched ∷ []) ∷ (1, waits ∷ patched ∷ []) ∷ (1, patched ∷ patched ∷ [])
      ∷ (0, none ∷ none ∷ []) ∷ []
  -- 6.1 doesn't check there
  pub no_own_checks : shown (after Linux_6_1 at_boot checking) ≡ (1, waits ∷ waits ∷ [])
