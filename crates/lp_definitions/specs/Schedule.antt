-- Who switches when, and what follows from it: levels, frames, and what a check sees of a task.
use Rattle.std.specs.Prelude.{◌≡◌, ℕ, zero, suc, ◌+◌, ◌≤◌, Bool, false, not, ◌&&◌, ◌||◌, map, length, Option, Some, None, IsTrue, if◌then◌else◌, nat_eq, nat_le}
use Rattle.lp_model.specs.declared.check.CheckKind.{CheckKind}
use Rattle.lp_stack.specs.declared.frame.Frame.{Frame}
use Rattle.lp_stack.specs.TaskView.{TaskView}
use Rattle.lp_model.specs.Rules.{Rules}
use Rattle.lp_definitions.specs.Tasks.{Origin, Stood, Forked, Pushed, Kept, Made, Life, Fate, Tasks, map_live}
use Rattle.lp_definitions.specs.Leg.{Leg, LegTask, after, check, each_live, some_live}

-- the moment at which each group switches to the target, if it does. Moment k is event k of the leg. Tasks switch group by group
-- (Linux livepatch: a group of one; Ksplice: all tasks in one group)
abbrev pub Schedule : Type 0
Schedule = ℕ → Option ℕ

-- by k the moment has come
abbrev pub has_come : Option ℕ → ℕ → Bool
has_come None k = false
has_come (Some moment) k = nat_le moment k

-- the level after the first k events of a task with this group and origin: the target if the group has switched, else its level
-- at the opening, or for a task born in the leg its parent's level just before the fork
unfoldable pub level_by : ℕ → Schedule → ℕ → ℕ → Origin → ℕ
level_by target schedule k group (Stood level) = if has_come (schedule group) k then target else level
level_by target schedule k group (Forked parent_group parent place) =
    if has_come (schedule group) k then target else level_by target schedule place parent_group parent

-- the level of a task after the first k events
abbrev pub level : Leg → Schedule → ℕ → Life → ℕ
level leg schedule k x = level_by leg.target schedule k x.group x.origin

-- a frame runs the level that its task had at the call: one of the opening keeps its level, one made in the leg has its
-- task's level just before the event
abbrev pub frame_of : Leg → Schedule → Life → Pushed → Frame
frame_of leg schedule x (Kept frame) = frame
frame_of leg schedule x (Made func place) =
    record { func = func; level = record { 0 = level leg schedule place x }; serial = leg.number + suc place }

-- what a check sees of a task
abbrev pub view : Leg → Schedule → ℕ → Life → TaskView
view leg schedule t x = record { task = t; class = x.class; mode = x.mode; frames = map (frame_of leg schedule x) x.calls }

-- a task as it stands after the first k events
abbrev pub leg_task : Leg → Schedule → ℕ → Life → LegTask
leg_task leg schedule k x =
    record {
      class = x.class;
      mode = x.mode;
      group = x.group;
      level = level leg schedule k x;
      frames = map (frame_of leg schedule x) x.calls;
    }

module _ (model : Rules) (leg : Leg) (schedule : Schedule) where
  -- the tasks after the first k events, with their levels
  abbrev pub shown_after : ℕ → ℕ → Fate LegTask
  shown_after k t = map_live (leg_task leg schedule k) (after model leg k t)

  -- after the first k events the group has a live member that is off the target
  -- (Linux livepatch: the task has TIF_PATCH_PENDING)
  unfoldable pub waits : ℕ → ℕ → Bool
  waits k group =
      some_live leg.bounds (after model leg k)
      (λ t x. nat_eq x.group group && not (nat_eq (level leg schedule k x) leg.target))

  -- at this kind of check each live member is admitted
  abbrev pub admits_each : Option CheckKind → Tasks → ℕ → Bool
  admits_each None now group = false
  admits_each (Some kind) now group =
      each_live leg.bounds now (λ t x. not (nat_eq x.group group) || model.admits kind (view leg schedule t x) leg.aim)

  -- event k + 1 is a check of the group, and admits each live member after the event's own effect
  unfoldable pub allowed : ℕ → ℕ → Bool
  allowed k group = admits_each (check model leg k group) (after model leg (suc k)) group

  -- after the first k events no live task is off the target
  unfoldable pub complete : ℕ → Bool
  complete k = each_live leg.bounds (after model leg k) (λ t x. nat_eq (level leg schedule k x) leg.target)

  -- a legal schedule: each group with a moment waits just before it, and is allowed at it
  abbrev pub IsLegal : Type 0
  IsLegal =
      (group moment : ℕ) → schedule group ≡ Some moment →
      (k : ℕ) × (moment ≡ suc k) × IsTrue (waits k group) × IsTrue (allowed k group)

  -- a first-check schedule: also, no group that waits just before a check and is allowed at it has another moment, or none
  pub record IsFirstCheck : Type 0 where
    pub legal : IsLegal
    pub first : (k group : ℕ) → IsTrue (waits k group) → IsTrue (allowed k group) → schedule group ≡ Some (suc k)

  -- the leg completes after its first k events, and not before
  pub record CompletesAt (k : ℕ) : Type 0 where
    pub now : IsTrue (complete k)
    pub least : (j : ℕ) → IsTrue (complete j) → k ≤ j

module _ (model : Rules) (leg : Leg) where
  -- the schedule that switches each group at the first check that allows it, as far as the first k events
  unfoldable pub first_checks : ℕ → Schedule
  first_checks zero = λ group. None
  first_checks (suc k) =
      let so_far = first_checks k in
      λ group. if waits model leg so_far k group && allowed model leg so_far k group then Some (suc k) else so_far group

  -- the first-check schedule of the leg
  abbrev pub first_check : Schedule
  first_check = first_checks (length leg.events)
