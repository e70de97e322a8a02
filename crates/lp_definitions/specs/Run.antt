-- The replies of a whole run, leg by leg. All that counts at any moment is the leg that the run is in:
-- its opening and the events since. Before the first control event that is a leg which is complete at level 0.
use Rattle.std.specs.Prelude.{ℕ, suc, pred, ◌+◌, ◌<◌, ◌≤◌, Bool, false, not, ◌&&◌, ◌||◌, List, [], ◌∷◌, ◌++◌, length, filter, All, Option, Some, None, is_none, if◌then◌else◌, nat_eq}
use Rattle.std.specs.List.{range_with_len}
use Rattle.lp_stack.specs.declared.view.Class.{Class}
use Rattle.lp_stack.specs.declared.view.Class.TheVariants.{Normal, Idle}
use Rattle.lp_stack.specs.declared.view.Mode.{Mode}
use Rattle.lp_stack.specs.declared.view.Mode.TheVariants.{User, Kernel}
use Rattle.lp_patch.specs.Patches.{Patches}
use Rattle.lp_model.specs.Rules.{Rules}
use Rattle.lp_definitions.specs.declared.event.Event.{Event}
use Rattle.lp_definitions.specs.declared.event.Event.TheVariants.{Call, Enable, Disable, Reverse}
use Rattle.lp_definitions.specs.declared.refusal.Refusal.{Refusal}
use Rattle.lp_definitions.specs.declared.refusal.Refusal.TheVariants.{InTransition, NotInTransition, AlreadyThere}
use Rattle.lp_definitions.specs.declared.reply.What.{What}
use Rattle.lp_definitions.specs.declared.reply.What.TheVariants.{Ran, Done, Switched, Refused}
use Rattle.lp_definitions.specs.declared.reply.Reply.{Reply}
use Rattle.lp_definitions.specs.Tasks.{Fate, Unused, Live, on_live, fits, first_of, outlines, Bounds, tests}
use Rattle.lp_definitions.specs.Leg.{LegTask, State, Leg, after}
use Rattle.lp_definitions.specs.Schedule.{Schedule, shown_after, complete, first_check}
use Rattle.lp_stack.specs.declared.number.TaskId.{TaskId}
use Rattle.lp_definitions.specs.Events.{is_control}

-- ---- The start: every task on level 0, with an empty stack

-- a normal task starts in user space, an idle task in the kernel
abbrev pub first_mode : Class → Mode
first_mode Normal = User
first_mode Idle = Kernel

-- a task that is there from the start
abbrev pub at_boot : Rules → ℕ → Class → LegTask
at_boot model t class =
    record { class = class; mode = first_mode class; group = model.first_group t; level = 0; frames = [] }

-- the tasks that are there from the start, each by its number and class
abbrev pub booted : Rules → List (TaskId × Class) → ℕ → Fate LegTask
booted model [] t = Unused
booted model (boot ∷ boots) t = if nat_eq t boot.0.0 then Live (at_boot model t boot.1) else booted model boots t

-- the numbers of the boot tasks are in range
abbrev pub AreInRange : Bounds → List (TaskId × Class) → Type 0
AreInRange bounds boots = All (λ boot. (0 < boot.0.0) × (boot.0.0 ≤ bounds.tasks)) boots

-- the leg before the first transition
abbrev pub start : Rules → Bounds → Patches → List (TaskId × Class) → Leg
start model bounds patches boots =
    record {
      opening = record {
        number = 0;
        bounds = bounds;
        from = 0;
        aim = record { patches = patches; target = 0 };
        tasks = booted model boots;
      };
      events = [];
    }

-- ---- Who switches at an event

-- the leg with one more event
abbrev pub and_then : Leg → Event → Leg
and_then leg event = record leg { events = leg.events ++ event ∷ [] }

-- the moment is k
abbrev pub is_at : ℕ → Option ℕ → Bool
is_at k None = false
is_at k (Some moment) = nat_eq moment k

-- the groups whose moment is k, in increasing order
abbrev pub switched_at : Leg → Schedule → ℕ → List ℕ
switched_at leg schedule k = filter (λ group. is_at k (schedule group)) (range_with_len 0 (suc leg.bounds.tasks))

-- what an event did that switched these groups
abbrev pub switched : List ℕ → What
switched [] = Done
switched (group ∷ groups) = Switched (group ∷ groups)

-- ---- Control events

-- the tests of a control event, in their order, E10 before E12. A transition to a further level begins only once
-- all tasks are on the last one's target (Linux livepatch: one transition at a time)
abbrev pub control_tests : State → Bool → Event → List (Option Refusal)
control_tests now settled Enable =
    fits (not settled) InTransition ∷ fits (nat_eq now.target (length now.patches)) AlreadyThere ∷ []
control_tests now settled Disable = fits (not settled) InTransition ∷ fits (nat_eq now.target 0) AlreadyThere ∷ []
control_tests now settled Reverse = fits settled NotInTransition ∷ []
control_tests now settled _ = []

-- where a control event takes the tasks: one patch more, one patch less, or back to where the transition came from
-- (Linux livepatch: a transition can be reversed)
abbrev pub new_target : State → Event → ℕ
new_target now Enable = suc now.target
new_target now Disable = pred now.target
new_target now Reverse = now.from
new_target now _ = now.target

-- ---- One event

module _ (model : Rules) where
  -- no live task is off the target, under the leg's first-check schedule
  unfoldable pub is_complete_now : Leg → Bool
  is_complete_now leg = complete model leg (first_check model leg) (length leg.events)

  -- the refusal of an event that comes now, if one fits
  unfoldable pub refused_by : Leg → Event → Option Refusal
  refused_by leg event =
      let now = outlines (after model leg (length leg.events)) in
      first_of (tests leg.bounds now event ++ control_tests leg.opening (is_complete_now leg) event)

  -- the present tasks with their levels
  unfoldable pub shown : Leg → ℕ → Fate LegTask
  shown leg t = shown_after model leg (first_check model leg) (length leg.events) t

  -- the leg that an accepted control event opens
  abbrev pub opened : Leg → Event → Leg
  opened leg event =
      record {
        opening = record {
          number = leg.number + suc (length leg.events);
          bounds = leg.bounds;
          from = leg.target;
          aim = record { patches = leg.patches; target = new_target leg.opening event };
          tasks = shown leg;
        };
        events = [];
      }

  -- an event opens a leg
  abbrev pub opens : Leg → Event → Bool
  opens leg event = is_control event && is_none (refused_by leg event)

  -- the leg after the event
  unfoldable pub next_leg : Leg → Event → Leg
  next_leg leg event = if opens leg event then opened leg event else and_then leg event

  -- the present level of a task
  abbrev pub level_now : Leg → ℕ → ℕ
  level_now leg t = on_live 0 (λ x. x.level) (shown leg t)

  -- what an accepted event did. A call runs its task's level; the first-check schedule says who switches
  abbrev pub done : Leg → Event → What
  done leg (Call t f) = Ran (record { 0 = level_now leg t.0 })
  done leg event = switched (switched_at leg (first_check model (and_then leg event)) (suc (length leg.events)))

  -- what happened, unless the event was refused
  abbrev pub unless_why : Option Refusal → What → What
  unless_why None what = what
  unless_why (Some why) what = Refused why

  -- the reply to an event that comes now. It completes a leg where no live task is off the target after it,
  -- and it opens this leg or some task was off the target before it
  unfoldable pub reply : Leg → Event → Reply
  reply leg event =
      record {
        what = unless_why (refused_by leg event) (done leg event);
        completed = is_complete_now (next_leg leg event) && (opens leg event || not (is_complete_now leg));
      }

  -- ---- A list of events

  -- the replies to these events, one each
  unfoldable pub replies : Leg → List Event → List Reply
  replies leg [] = []
  replies leg (event ∷ events) = reply leg event ∷ replies (next_leg leg event) events

  -- the leg after these events
  unfoldable pub leg_after : Leg → List Event → Leg
  leg_after leg [] = leg
  leg_after leg (event ∷ events) = leg_after (next_leg leg event) events

-- ---- A run

-- symbols are numbered below their count, tasks from 1 to 65,535
abbrev pub task_numbers : ℕ → Bounds
task_numbers symbols = record { symbols = symbols; tasks = 65535 }

-- how a run starts, and its events so far
pub record Run : Type 0 where
  pub bounds : Bounds
  pub patches : Patches
  pub boots : List (TaskId × Class)
  pub events : List Event

-- the run with one more event
abbrev pub plus : Run → Event → Run
plus run event = record run { events = run.events ++ event ∷ [] }

-- the leg that a run starts in
abbrev pub first_leg : Rules → Run → Leg
first_leg model run = start model run.bounds run.patches run.boots

-- the leg that a run is in
abbrev pub leg_of : Rules → Run → Leg
leg_of model run = leg_after model (first_leg model run) run.events
