-- How standing blames are kept.
use Rattle.std.specs.Prelude.{◌≡◌, ℕ, ◌<◌, ◌≤◌, Bool, false, not, ◌&&◌, ◌||◌, List, map, length, Option, Some, None, is_some, if◌then◌else◌, nat_eq, slice_index_or, Contains}
use Rattle.std.specs.List.{list_any}
use Rattle.std.specs.Option.{option_map}
use Rattle.lp_stack.specs.declared.frame.Frame.{Frame}
use Rattle.lp_stack.specs.TaskView.{TaskView}
use Rattle.lp_numbers.specs.Numbers.{Numbers, has}
use Rattle.lp_model.specs.declared.check.CheckKind.{CheckKind}
use Rattle.lp_model.specs.declared.check.Blame.{Blame}
use Rattle.lp_model.specs.declared.check.Blame.TheVariants.{Frame as Held}
use Rattle.lp_model.specs.declared.verdict.Verdict.{Verdict}
use Rattle.lp_model.specs.Rules.{Rules, SerialsRise}
use Rattle.lp_machine.specs.declared.standing_blame.StandingBlame.{StandingBlame}
use Rattle.lp_definitions.specs.Tasks.{Live, first_of}
use Rattle.lp_definitions.specs.Leg.{LegTask, State}
use Rattle.lp_machine.specs.Table.{Table, slot}
use Rattle.lp_tasks.specs.inside.Table.{is_in}
use Rattle.lp_transition.specs.Blames.{frame_blame, or_blame}

-- the standing blame of a group
abbrev pub blame_at : List (Option StandingBlame) → (group : ℕ) → Option StandingBlame
blame_at blames group = slice_index_or blames group None

-- no more places than groups, and a set with each group that has a blame
pub record AreNoted (blames : List (Option StandingBlame)) (noted : Numbers) : Type 0 where
  pub few : length blames ≤ 65536
  pub others : (group : ℕ) → has noted group ≡ false → blame_at blames group ≡ None

-- ---- After a return

-- a live task has a frame with this serial
abbrev pub frame_there : Option LegTask → (serial : ℕ) → Bool
frame_there None serial = false
frame_there (Some x) serial = list_any (λ frame. nat_eq frame.serial serial) x.frames

-- a group's blame after a look at a task: it goes where it names a frame that this task, a member, doesn't have
abbrev pub looked_at : Table → (task group : ℕ) → Option StandingBlame → Option StandingBlame
looked_at table t group None = None
looked_at table t group (Some b) =
    if is_in group (slot table t) && (nat_eq b.task.0 t && not (frame_there (slot table t) b.serial)) then None else Some b

-- ---- After a scan

-- the verdict's task and blame, if it refuses a member of the group
abbrev pub told_of : Table → (group : ℕ) → Verdict → Option (ℕ × Blame)
told_of table group verdict =
    if is_in group (slot table verdict.task.0) then option_map (λ why. (verdict.task.0, why)) verdict.blame else None

-- the blame that these verdicts find of a group
abbrev pub found_by : Table → (group : ℕ) → List Verdict → Option StandingBlame
found_by table group verdicts = frame_blame (first_of (map (told_of table group) verdicts))

-- what one verdict does, by what it tells of each group: where none before it told anything of the group it decides
pub record IsDecided (told : ℕ → Option (ℕ × Blame)) (old new : List (Option StandingBlame)) (old_noted noted old_decided decided : Numbers) : Type 0 where
  pub few : length new ≤ 65536
  pub blames : (group : ℕ) → group < 65536 → blame_at new group ≡ (if has old_decided group then blame_at old group else or_blame (blame_at old group) (frame_blame (told group)))
  pub decides : (group : ℕ) → group < 65536 → has decided group ≡ (has old_decided group || is_some (told group))
  pub others : ((group : ℕ) → has old_noted group ≡ false → blame_at old group ≡ None) → (group : ℕ) → has noted group ≡ false → blame_at new group ≡ None

-- ---- Why a blame stands

-- a waiting member has a frame for which a check against the present target refused it
pub record IsBlamed (model : Rules) (s : State) (group : ℕ) (b : StandingBlame) : Type 0 where
  pub life : LegTask
  pub live : s.tasks b.task.0 ≡ Live life
  pub off : nat_eq life.level s.target ≡ false
  pub grouped : life.group ≡ group
  pub frame : Frame
  pub serial : frame.serial ≡ b.serial
  pub there : Contains life.frames frame
  -- the check, and the task as it saw it
  pub kind : CheckKind
  pub seen : TaskView
  pub task : seen.task ≡ b.task.0
  pub rises : SerialsRise seen.frames
  pub held : Contains seen.frames frame
  pub blame : model.blame kind seen s.aim ≡ Some (Held b.serial)

-- each standing blame stands for a reason
abbrev pub AreBlamed : Rules → State → List (Option StandingBlame) → Type 0
AreBlamed model s blames = (group : ℕ) (b : StandingBlame) → blame_at blames group ≡ Some b → IsBlamed model s group b
