-- A leg of a run: a transition from its opening on, up to the next. A transition opens when a patch is enabled
-- (Linux livepatch: `klp_enable_patch`) or disabled, or when it is turned round (a write to its `enabled` file).
-- The events of a leg are counted from 1 after the opening, so event k has the number of the opening plus k.
use Rattle.std.specs.Prelude.{ℕ, zero, suc, Bool, true, false, not, ◌&&◌, ◌||◌, List, map, Option, Some, None, nat_eq, slice_get}
use Rattle.lp_stack.specs.declared.view.Mode.{Mode}
use Rattle.lp_stack.specs.declared.view.Class.{Class}
use Rattle.lp_model.specs.declared.check.CheckKind.{CheckKind}
use Rattle.lp_model.specs.declared.check.CheckKind.TheVariants.{KernelExit, IdlePoint, Resched, Walk, Stop}
use Rattle.lp_stack.specs.declared.frame.Frame.{Frame}
use Rattle.lp_patch.specs.Patches.{Aim}
use Rattle.lp_model.specs.Rules.{Rules}
use Rattle.lp_definitions.specs.declared.event.Event.{Event}
use Rattle.lp_definitions.specs.declared.event.Event.TheVariants.{Exit, Idle, Resched, Walk, Stop}
use Rattle.lp_definitions.specs.declared.refusal.Refusal.{Refusal}
use Rattle.lp_definitions.specs.Tasks.{Stood, Kept, Life, Fate, Tasks, Outlines, outlines, on_live, map_live, Bounds, refusal, Grouping, effect}

-- a live task as it stands, with its level: as many of the stacked patches apply to it, so level 0 is unpatched
-- (Linux livepatch: its patch state). The frames stand in the order of their calls, the one made first in front
pub record LegTask : Type 0 where
  pub class : Class
  pub mode : Mode
  pub group : ℕ
  pub level : ℕ
  pub frames : List Frame

-- the tasks as they stand after some number of events, and where they are bound: from one level to the target,
-- with these patches. Each control event that is accepted leaves such a state, and so does every other event
pub record State : Type 0 where
  pub number : ℕ
  pub bounds : Bounds
  pub from : ℕ
  pub aim : Aim
  pub open aim use {target, patches}
  pub tasks : ℕ → Fate LegTask

-- the state that a control event left, which is the opening, and the events after it
pub record Leg : Type 0 where
  pub opening : State
  pub open opening use {number, bounds, from, aim, target, patches, tasks}
  pub events : List Event

-- ---- The tasks

-- a task of the opening
abbrev pub begin : LegTask → Life
begin task =
    record {
      class = task.class;
      mode = task.mode;
      group = task.group;
      origin = Stood task.level;
      calls = map Kept task.frames;
    }

-- the event, where no refusal fits
abbrev pub unless_refused : Option Refusal → Event → Option Event
unless_refused None event = Some event
unless_refused (Some refusal) event = None

-- the event that comes, where there is one and it is accepted
abbrev pub accept : Bounds → Tasks → Option Event → Option Event
accept bounds now None = None
accept bounds now (Some event) = unless_refused (refusal bounds now event) event

-- an accepted event has its effect; nothing else changes a task
abbrev pub take_effect : Grouping → ℕ → Option Event → Tasks → Tasks
take_effect grouping place None now = now
take_effect grouping place (Some event) now = effect grouping place event now

-- the tasks after the first k events
unfoldable pub tasks_after : Grouping → Leg → ℕ → Tasks
tasks_after grouping leg zero = λ t. map_live begin (leg.tasks t)
tasks_after grouping leg (suc k) =
    let now = tasks_after grouping leg k in
    take_effect grouping k (accept leg.bounds now (slice_get leg.events k)) now

-- ---- What holds of each live task, or of one. Task numbers begin with 1

abbrev pub each_task : ℕ → (ℕ → Bool) → Bool
each_task zero test = true
each_task (suc last) test = test (suc last) && each_task last test

abbrev pub some_task : ℕ → (ℕ → Bool) → Bool
some_task zero test = false
some_task (suc last) test = test (suc last) || some_task last test

unfoldable pub each_live : {A : Type 0} → Bounds → (ℕ → Fate A) → (ℕ → A → Bool) → Bool
each_live bounds now test = each_task bounds.tasks (λ t. on_live true (test t) (now t))

unfoldable pub some_live : {A : Type 0} → Bounds → (ℕ → Fate A) → (ℕ → A → Bool) → Bool
some_live bounds now test = some_task bounds.tasks (λ t. on_live false (test t) (now t))

-- ---- Checks

-- the group has a live member
abbrev pub has_member : Bounds → Outlines → ℕ → Bool
has_member bounds now group = some_live bounds now (λ t x. nat_eq x.group group)

-- t is the only live member of the group
abbrev pub is_alone : Bounds → Outlines → ℕ → ℕ → Bool
is_alone bounds now group t =
    on_live false (λ x. nat_eq x.group group) (now t)
    && each_live bounds now (λ other x. not (nat_eq x.group group) || nat_eq other t)

-- this kind, or none
abbrev pub when : Bool → CheckKind → Option CheckKind
when true kind = Some kind
when false kind = None

-- the kind of check of the group that an accepted event is, whichever kinds a model uses. The event's own effect comes
-- first: the tasks are those after it. A return to user space, an idle task's point and a task's rescheduling point check the
-- group of a lone task (Linux livepatch: kernel exit switching, idle tasks, `__klp_sched_try_switch`), a walk and a stop check
-- every group (Linux livepatch: stack checking; Ksplice: stop_machine)
abbrev pub check_by : Bounds → Outlines → Option Event → ℕ → Option CheckKind
check_by bounds now (Some (Exit t)) group = when (is_alone bounds now group t.0) KernelExit
check_by bounds now (Some (Idle t)) group = when (is_alone bounds now group t.0) IdlePoint
check_by bounds now (Some (Resched t)) group = when (is_alone bounds now group t.0) Resched
check_by bounds now (Some Walk) group = when (has_member bounds now group) Walk
check_by bounds now (Some Stop) group = when (has_member bounds now group) Stop
check_by bounds now (Some _) group = None
check_by bounds now None group = None

-- the kind of a check, if it is used
abbrev pub if_used : (CheckKind → Bool) → Option CheckKind → Option CheckKind
if_used uses None = None
if_used uses (Some kind) = when (uses kind) kind

module _ (model : Rules) (leg : Leg) where
  -- the tasks after the first k events of the leg
  abbrev pub after : ℕ → Tasks
  after k = tasks_after model.child_group leg k

  -- event k + 1 of the leg, where it is accepted
  abbrev pub accepted : ℕ → Option Event
  accepted k = accept leg.bounds (after k) (slice_get leg.events k)

  -- the kind of check of the group that event k + 1 is for the model
  unfoldable pub check : ℕ → ℕ → Option CheckKind
  check k group = if_used model.uses (check_by leg.bounds (outlines (after (suc k))) (accepted k) group)
