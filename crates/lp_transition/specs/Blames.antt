-- The frame by which a waiting group is known to be refused, and what becomes of it at each event.
use Rattle.std.specs.Prelude.{◌≡◌, ℕ, ◌<◌, Bool, true, false, ◌&&◌, List, map, Option, Some, None, is_none, if◌then◌else◌, nat_eq, slice_index_or}
use Rattle.std.specs.List.{range_with_len, list_any}
use Rattle.std.specs.Option.{option_map}
use Rattle.lp_model.specs.declared.check.CheckKind.{CheckKind}
use Rattle.lp_model.specs.declared.check.CheckKind.TheVariants as check
use Rattle.lp_model.specs.declared.check.Blame.{Blame}
use Rattle.lp_model.specs.declared.check.Blame.TheVariants as blame
use Rattle.lp_model.specs.declared.verdict.Verdict.{Verdict}
use Rattle.lp_model.specs.Rules.{Rules}
use Rattle.lp_definitions.specs.declared.event.Event.{Event}
use Rattle.lp_definitions.specs.declared.event.Event.TheVariants.{Resched}
use Rattle.lp_definitions.specs.declared.refusal.Refusal.{Refusal}
use Rattle.lp_machine.specs.declared.standing_blame.StandingBlame.{StandingBlame}
use Rattle.lp_definitions.specs.Events.{is_control}
use Rattle.lp_definitions.specs.Tasks.{Live, on_live, first_of}
use Rattle.lp_definitions.specs.Leg.{LegTask, State, is_alone}
use Rattle.lp_machine.specs.Machine.{outlines_of, view_of, waits_in, affected, refusal_of}
use Rattle.lp_transition.specs.Scan.{verdicts_of, verdicts_at, is_of, first_refused}
use Rattle.lp_machine.specs.Table.{Engine, state_in}

-- ---- Who is refused

-- a frame with this serial is on the stack of a live task
abbrev pub has_frame_in : State → (task serial : ℕ) → Bool
has_frame_in s t serial = on_live false (λ x. list_any (λ frame. nat_eq frame.serial serial) x.frames) (s.tasks t)

-- the blame of a task, if it is a live member of the group that a check of this kind refuses
abbrev pub blame_in : Rules → State → CheckKind → (group task : ℕ) → Option Blame
blame_in model s kind group t =
    on_live None (λ x. if nat_eq x.group group then model.blame kind (view_of t x) s.aim else None) (s.tasks t)

-- the member of least number that a check of this kind refuses, with its blame
abbrev pub first_blamed_in : Rules → State → CheckKind → (group : ℕ) → Option (ℕ × Blame)
first_blamed_in model s kind group =
    first_of (map (λ t. option_map (λ why. (t, why)) (blame_in model s kind group t)) (range_with_len 1 s.bounds.tasks))

-- of each group that passes a test these verdicts tell the first member that a scan refuses, or that it refuses none; of the
-- others nothing
pub record TellOf (model : Rules) (kind : CheckKind) (s : State) (asked : ℕ → Bool) (verdicts : List Verdict) : Type 0 where
  pub looked : ℕ → Bool
  pub found : verdicts ≡ verdicts_at model kind s looked
  -- nobody of another group is looked at
  pub only : (t : ℕ) (x : LegTask) → s.tasks t ≡ Live x → looked t ≡ true → asked x.group ≡ true
  -- somebody of each that waits is
  pub each :
      (t : ℕ) (x : LegTask) → s.tasks t ≡ Live x → nat_eq x.level s.target ≡ false → asked x.group ≡ true →
      list_any (is_of s x.group) verdicts ≡ true
  pub first : (group : ℕ) → asked group ≡ true → first_refused s group verdicts ≡ first_refused s group (verdicts_of model kind s)

-- why a task's own check in the kernel doesn't admit it, if the model uses the check
abbrev pub own_blame : Rules → State → (task : ℕ) → Option Blame
own_blame model s t =
    if model.uses check.Resched then on_live None (λ x. model.blame check.Resched (view_of t x) s.aim) (s.tasks t) else None

-- the member of the group that an accepted event is found to refuse first, with its blame: an own check in the kernel tells of the
-- only member of a group that waits, and a scan by its verdicts
abbrev pub refused_first : Rules → State → Event → List Verdict → (group : ℕ) → Option (ℕ × Blame)
refused_first model s (Resched t) verdicts group =
    if waits_in s group && is_alone s.bounds (outlines_of s.tasks) group t.0
    then option_map (λ why. (t.0, why)) (own_blame model s t.0)
    else None
refused_first model s _ verdicts group = first_refused s group verdicts

-- ---- Standing blames

-- the standing blame of a group
abbrev pub blame_of : Engine → (group : ℕ) → Option StandingBlame
blame_of e group = slice_index_or e.blames group None

-- the group has no standing blame
abbrev pub is_open : Engine → (group : ℕ) → Bool
is_open e group = is_none (blame_of e group)

-- a refusal for a frame is a blame that stands
abbrev pub frame_blame : Option (ℕ × Blame) → Option StandingBlame
frame_blame (Some (t, blame.Frame serial)) = Some (record { task = record { 0 = t }; serial = serial })
frame_blame (Some (t, blame.Busy)) = None
frame_blame (Some (t, blame.Unused)) = None
frame_blame None = None

-- the blame, while its frame is on its task's stack
abbrev pub while_there : State → Option StandingBlame → Option StandingBlame
while_there s None = None
while_there s (Some b) = if has_frame_in s b.task.0 b.serial then Some b else None

-- the one that stands, or else the other
abbrev pub or_blame : Option StandingBlame → Option StandingBlame → Option StandingBlame
or_blame None found = found
or_blame (Some b) found = Some b

-- ---- One event

module _ (model : Rules) (e : Engine) (event : Event) (verdicts : List Verdict) (group : ℕ) where
  -- the group's blame after an accepted event. It goes at a control event, and when its frame is popped; a scan, or an own
  -- check in the kernel, finds one of a group that has none where the first member that it refuses is refused for a frame.
  -- At an exit and an idle point there is no frame
  abbrev pub blame_taken : Option StandingBlame
  blame_taken =
      if is_control event then None
      else or_blame (while_there (affected model (state_in e) event) (blame_of e group)) (frame_blame (refused_first model (state_in e) event verdicts group))

  -- the same of an event that is refused, too: it leaves the blame as it was
  abbrev pub blame_by : Option Refusal → Option StandingBlame
  blame_by None = blame_taken
  blame_by (Some why) = blame_of e group

  -- the group's blame after the event, which these verdicts answered
  abbrev pub blame_after : Option StandingBlame
  blame_after = blame_by (refusal_of model (state_in e) event)

-- the event, answered by these verdicts, leaves the blames that it has to
abbrev pub AreBlamesAfter : Rules → Engine → Event → List Verdict → Engine → Type 0
AreBlamesAfter model old event verdicts new =
    (group : ℕ) → group < 65536 → blame_of new group ≡ blame_after model old event verdicts group

-- each group that has a blame waits
abbrev pub AreOfWaiting : Engine → Type 0
AreOfWaiting e = (group : ℕ) → is_open e group ≡ false → waits_in (state_in e) group ≡ true
