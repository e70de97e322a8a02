-- How the engine goes from the verdicts of a scan to who switches, and what it leaves.
use Rattle.std.specs.Prelude.{◌≡◌, ◌≢◌, ◌↔◌, ℕ, Bool, true, false, not, ◌&&◌, List, [], length, map, Option, Some, None, is_some, is_none, if◌then◌else◌, nat_eq}
use Rattle.std.specs.List.{list_any}
use Rattle.std.specs.Option.{option_map}
use Rattle.lp_model.specs.declared.verdict.Verdict.{Verdict}
use Rattle.lp_numbers.specs.Numbers.{Numbers, has}
use Rattle.lp_definitions.specs.declared.reply.What.{What}
use Rattle.lp_definitions.specs.declared.reply.What.TheVariants.{Switched}
use Rattle.lp_definitions.specs.Leg.{LegTask}
use Rattle.lp_machine.specs.Table.{Table, slot, IsWide}
use Rattle.lp_tasks.specs.inside.Table.{is_in}

-- ---- Who is looked at

-- the live task of a number, where it is in the waiting set
abbrev pub waiting_slot : Table → Numbers → ℕ → Option LegTask
waiting_slot table waiting t = if has waiting t then slot table t else None

-- the task numbers of verdicts
abbrev pub tasks_of : List Verdict → List ℕ
tasks_of verdicts = map (λ v. v.task.0) verdicts

-- the task is one of those looked at
abbrev pub is_judged : List Verdict → ℕ → Bool
is_judged verdicts t = list_any (nat_eq t) (tasks_of verdicts)

-- the verdict is this task's, and admits it
abbrev pub admits_task : ℕ → Verdict → Bool
admits_task t v = is_none v.blame && nat_eq t v.task.0

-- ---- Who switches by the verdicts

-- the verdict refuses a member of the group, or admits one
abbrev pub is_found : Table → Bool → ℕ → Verdict → Bool
is_found table refused group verdict =
    (if refused then is_some verdict.blame else is_none verdict.blame) && is_in group (slot table verdict.task.0)

-- the group switches by these verdicts: a member is admitted, and none is refused
abbrev pub switches_by : Table → List Verdict → ℕ → Bool
switches_by table verdicts group =
    list_any (is_found table false group) verdicts && not (list_any (is_found table true group) verdicts)

-- some task was looked at, and each was admitted
abbrev pub all_admit : List Verdict → Bool
all_admit verdicts = not (nat_eq (length verdicts) 0) && not (list_any (λ v. is_some v.blame) verdicts)

-- the groups that an event switched
abbrev pub groups_of : What → List ℕ
groups_of (Switched groups) = groups
groups_of _ = []

-- ---- Whom a scan looks at

-- the task of this number and no other live task is a member of the group of this number, if one is
abbrev pub IsOwnGroup : Table → ℕ → Type 0
IsOwnGroup table number = (t : ℕ) (x : LegTask) → slot table t ≡ Some x → (x.group ≡ number) ↔ (t ≡ number)

-- ---- What a scan leaves

-- the group isn't one of those refused
abbrev pub is_unrefused : (refused : Numbers) → (group : ℕ) → Bool
is_unrefused refused group = not (has refused group)

-- a live task after its group switched, if it switches
abbrev pub switched_if : (ℕ → Bool) → ℕ → LegTask → LegTask
switched_if switches target x = if switches x.group then record x { level = target } else x

-- a live task's group switches
abbrev pub task_switches : (ℕ → Bool) → Option LegTask → Bool
task_switches switches None = false
task_switches switches (Some x) = switches x.group

-- the task switched with its group, and waits no longer
pub record IsTaskSwitched (switches : ℕ → Bool) (target t : ℕ) (old new : Table) (waiting left : Numbers) : Type 0 where
  pub task : slot new t ≡ option_map (switched_if switches target) (slot old t)
  pub others : (u : ℕ) → u ≢ t → slot new u ≡ slot old u
  pub waits : has left t ≡ (has waiting t && not (task_switches switches (slot old t)))
  pub others_wait : (u : ℕ) → u ≢ t → has left u ≡ has waiting u
  pub numbers : length left ≡ length waiting
  pub used : new.used ≡ old.used
  pub wide : IsWide old → IsWide new

-- each task that passes a test switched with its group, and waits no longer
pub record AreSwitched (taken switches : ℕ → Bool) (target : ℕ) (old new : Table) (waiting left : Numbers) : Type 0 where
  pub tasks : (t : ℕ) → slot new t ≡ (if taken t then option_map (switched_if switches target) (slot old t) else slot old t)
  pub waits : (t : ℕ) → has left t ≡ (has waiting t && not (taken t && task_switches switches (slot old t)))
  pub numbers : length left ≡ length waiting
  pub used : new.used ≡ old.used
  pub wide : IsWide old → IsWide new
