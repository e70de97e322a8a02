-- What the engine knows of a group's newest line: whether it goes on once more when a scan refuses the group, and the frame that holds
-- the group back.
use Rattle.std.specs.Prelude.{◌≡◌, ◌≤◌, ℕ, Bool, true, false, List, ◌∷◌, Option, Some, None, nat_eq}
use Rattle.lp_numbers.specs.Numbers.{has}
use Rattle.lp_model.specs.declared.check.CheckKind.{CheckKind}
use Rattle.lp_model.specs.declared.check.Blame.TheVariants as blame
use Rattle.lp_model.specs.Rules.{Rules}
use Rattle.lp_definitions.specs.Tasks.{Live}
use Rattle.lp_definitions.specs.Leg.{LegTask, State}
use Rattle.lp_machine.specs.declared.standing_blame.StandingBlame.{StandingBlame}
use Rattle.lp_machine.specs.Table.{Engine, LastScan}
use Rattle.lp_transition.specs.Blames.{blame_of, has_frame_in, first_blamed_in, while_there}
use Rattle.lp_definitions.specs.declared.line.Line.{Line}
use Rattle.lp_definitions.specs.declared.line.Line.TheVariants.{Hold, Busy}

-- the newest line of the group goes on if a scan of this kind refuses the group: a hold whose frame is still on its task's
-- stack, or that a member is busy, where it is the first that such a scan refuses
abbrev pub IsUnchanged : Rules → CheckKind → State → (group : ℕ) → List Line → Type 0
IsUnchanged model kind s group (Hold g task serial from to ∷ older) = has_frame_in s task.0 serial ≡ true
IsUnchanged model kind s group (Busy g task at ∷ older) = first_blamed_in model s kind group ≡ Some (task.0, blame.Busy)
IsUnchanged model kind s group _ = ⊥

-- the waiting groups outside this set are unchanged
abbrev pub AreUnchanged : Rules → State → (lines : ℕ → List Line) → CheckKind → (changed : ℕ → Bool) → Type 0
AreUnchanged model s lines kind changed =
    (t : ℕ) (x : LegTask) → s.tasks t ≡ Live x → nat_eq x.level s.target ≡ false → changed x.group ≡ false →
    IsUnchanged model kind s x.group (lines x.group)

-- where there was a scan
abbrev pub AreUnchangedSince : Rules → State → (lines : ℕ → List Line) → Option CheckKind → (changed : ℕ → Bool) → Type 0
AreUnchangedSince model s lines None changed = Unit {0}
AreUnchangedSince model s lines (Some kind) changed = AreUnchanged model s lines kind changed

-- the waiting groups are unchanged to which nothing happened since the last scan
abbrev pub AreUnchangedBy : Rules → State → (lines : ℕ → List Line) → LastScan → Type 0
AreUnchangedBy model s lines last_scan = AreUnchangedSince model s lines last_scan.kind (has last_scan.changed)

-- ---- Frames that hold groups back

-- the frame for which the group waits by its newest line, if that is a hold
abbrev pub hold_of : List Line → Option StandingBlame
hold_of (Hold group task serial from to ∷ older) = Some (record { task = task; serial = serial })
hold_of _ = None

-- it came with one of so many events
abbrev pub IsPast : (number : ℕ) → Option StandingBlame → Type 0
IsPast number None = Unit {0}
IsPast number (Some b) = b.serial ≤ number

-- the standing blame of a group with these lines is the hold of the newest, while its frame is on its task's stack
pub record IsHeldBy (s : State) (lines : List Line) (blame : Option StandingBlame) : Type 0 where
  pub past : IsPast s.number (hold_of lines)
  pub blamed : blame ≡ while_there s (hold_of lines)

-- so it is of each group that waits
abbrev pub AreHeld : State → (lines : ℕ → List Line) → Engine → Type 0
AreHeld s lines e =
    (t : ℕ) (x : LegTask) → s.tasks t ≡ Live x → nat_eq x.level s.target ≡ false → IsHeldBy s (lines x.group) (blame_of e x.group)
