-- Scans, which look at the stacks of all waiting tasks: what they look at, and what they find.
use Rattle.std.specs.Prelude.{◌≡◌, ℕ, Bool, true, false, List, map, Option, Some, None, is_some, if◌then◌else◌, nat_eq}
use Rattle.std.specs.List.{filter, filter_map, list_any, range_with_len}
use Rattle.std.specs.Option.{option_map}
use Rattle.lp_stack.specs.TaskView.{TaskView}
use Rattle.lp_patch.specs.Patches.{Aim}
use Rattle.lp_model.specs.Rules.{Rules}
use Rattle.lp_model.specs.declared.check.Blame.{Blame}
use Rattle.lp_model.specs.declared.check.CheckKind.{CheckKind}
use Rattle.lp_model.specs.declared.check.CheckKind.TheVariants.{Walk, Stop}
use Rattle.lp_model.specs.declared.verdict.Verdict.{Verdict}
use Rattle.lp_definitions.specs.declared.event.Event.{Event}
use Rattle.lp_definitions.specs.declared.event.Event.TheVariants.{Walk, Stop}
use Rattle.lp_definitions.specs.Tasks.{Fate, Unused, Live, Dead, on_live, first_of}
use Rattle.lp_definitions.specs.Leg.{LegTask, State}
use Rattle.lp_machine.specs.Machine.{view_of}

-- ---- Kinds of scans

-- the kind of check is a scan's
abbrev pub is_scan_kind : CheckKind → Bool
is_scan_kind Walk = true
is_scan_kind Stop = true
is_scan_kind _ = false

-- the event that is this check: Stop, or Walk for any other kind
abbrev pub scan_event : CheckKind → Event
scan_event Stop = Stop
scan_event _ = Walk

-- ---- What a scan looks at

-- a task as a check sees it, where it waits: it is live and off the target
abbrev pub waiting_view : ℕ → ℕ → Fate LegTask → Option TaskView
waiting_view target t Unused = None
waiting_view target t (Live x) = if nat_eq x.level target then None else Some (view_of t x)
waiting_view target t Dead = None

-- the waiting tasks, by increasing number
unfoldable pub views_of : State → List TaskView
views_of s = filter_map (λ t. waiting_view s.target t (s.tasks t)) (range_with_len 1 s.bounds.tasks)

-- ---- What a scan finds

-- what a check finds of a task
abbrev pub verdict_of : Rules → CheckKind → Aim → TaskView → Verdict
verdict_of model kind aim view = record { task = record { 0 = view.task }; blame = model.blame kind view aim }

-- what a check finds of the waiting tasks, by increasing number
abbrev pub verdicts_of : Rules → CheckKind → State → List Verdict
verdicts_of model kind s = map (verdict_of model kind s.aim) (views_of s)

-- ---- What a scan may leave out

-- a waiting member of the group whom a check of this kind refuses
pub record RefusesMember (model : Rules) (kind : CheckKind) (s : State) (group : ℕ) : Type 0 where
  pub member : ℕ
  pub life : LegTask
  pub live : s.tasks member ≡ Live life
  pub off : nat_eq life.level s.target ≡ false
  pub grouped : life.group ≡ group
  pub refused : is_some (model.blame kind (view_of member life) s.aim) ≡ true

-- a scan of this kind may leave out the groups that fail a test: of each that waits it would refuse a member
abbrev pub MayLeaveOut : Rules → CheckKind → State → (asked : ℕ → Bool) → Type 0
MayLeaveOut model kind s asked =
    (t : ℕ) (x : LegTask) → s.tasks t ≡ Live x → nat_eq x.level s.target ≡ false → asked x.group ≡ false →
    RefusesMember model kind s x.group

-- the group of a live task passes a test
abbrev pub is_asked : State → (asked : ℕ → Bool) → (t : ℕ) → Bool
is_asked s asked t = on_live false (λ x. asked x.group) (s.tasks t)

-- what a scan finds of the waiting tasks whose groups pass a test, by increasing number
abbrev pub verdicts_among : Rules → CheckKind → State → (asked : ℕ → Bool) → List Verdict
verdicts_among model kind s asked = filter (λ v. is_asked s asked v.task.0) (verdicts_of model kind s)

-- ---- Whom it refuses

-- the verdict is of a member of the group
abbrev pub is_of : State → (group : ℕ) → Verdict → Bool
is_of s group verdict = on_live false (λ x. nat_eq x.group group) (s.tasks verdict.task.0)

-- the verdict's task and blame, if it refuses a member of the group
abbrev pub member_verdict : State → (group : ℕ) → Verdict → Option (ℕ × Blame)
member_verdict s group verdict =
    if is_of s group verdict
    then option_map (λ why. (verdict.task.0, why)) verdict.blame
    else None

-- the first of these verdicts that refuses a member of the group
abbrev pub first_refused : State → (group : ℕ) → List Verdict → Option (ℕ × Blame)
first_refused s group verdicts = first_of (map (member_verdict s group) verdicts)

-- ---- Whom a scan may pass over

-- a check of this kind refuses a waiting member of the group, and a scan that looks at any waiting member looks at this one
pub record RefusesLooked (model : Rules) (kind : CheckKind) (s : State) (looked : ℕ → Bool) (group : ℕ) : Type 0 where
  pub refusal : RefusesMember model kind s group
  pub seen : (t : ℕ) (x : LegTask) → s.tasks t ≡ Live x → nat_eq x.level s.target ≡ false → x.group ≡ group → looked t ≡ true → looked refusal.member ≡ true

-- a scan of this kind may pass over the tasks that fail a test: of the group of each that waits it would refuse a member, and it
-- looks at that one where it looks at any member. So the members of a group that switches are all looked at, and one that is
-- refused is not taken for one that switches
abbrev pub MayPassOver : Rules → CheckKind → State → (looked : ℕ → Bool) → Type 0
MayPassOver model kind s looked =
    (t : ℕ) (x : LegTask) → s.tasks t ≡ Live x → nat_eq x.level s.target ≡ false → looked t ≡ false →
    RefusesLooked model kind s looked x.group

-- what a scan finds of the waiting tasks that pass a test, by increasing number
abbrev pub verdicts_at : Rules → CheckKind → State → (looked : ℕ → Bool) → List Verdict
verdicts_at model kind s looked = filter (λ v. looked v.task.0) (verdicts_of model kind s)

-- these verdicts are enough to answer a scan: they are of some waiting tasks, and the others may be passed over
pub record AreEnough (model : Rules) (kind : CheckKind) (s : State) (verdicts : List Verdict) : Type 0 where
  pub looked : ℕ → Bool
  pub others : MayPassOver model kind s looked
  pub found : verdicts ≡ verdicts_at model kind s looked
  -- where a verdict is of a member of a group, they tell the first member that the scan refuses, or that it refuses none
  pub first :
      (group : ℕ) → list_any (is_of s group) verdicts ≡ true →
      first_refused s group verdicts ≡ first_refused s group (verdicts_of model kind s)
