-- What holds of a group's reasons, and what a refusal and a birth make of them.
use Rattle.std.specs.Prelude.{◌≡◌, ◌⊎◌, ℕ, ◌+◌, ◌<◌, ◌≤◌, Bool, true, false, ◌&&◌, List, [], ◌∷◌, ◌++◌, length, nat_eq, slice_index_or, if◌then◌else◌}
use Rattle.std.specs.List.{AllByRecursion}
use Rattle.lp_stack.specs.declared.number.GroupId.{GroupId}
use Rattle.lp_stack.specs.declared.number.TaskId.{TaskId}
use Rattle.lp_model.specs.declared.check.Blame.{Blame}
use Rattle.lp_model.specs.declared.check.Blame.TheVariants as blame
use Rattle.lp_definitions.specs.declared.line.Line.TheVariants as line
use Rattle.lp_cert.specs.declared.reason.Reason.{Reason}
use Rattle.lp_cert.specs.declared.reason.Reason.TheVariants as reason
use Rattle.lp_cert.specs.declared.ongoing.Ongoing.{Ongoing}
use Rattle.lp_cert.specs.declared.ongoing.Ongoing.TheVariants.{Nothing, Hold, Busy}
use Rattle.lp_cert.specs.declared.head.Head.{Head}
use Rattle.lp_cert.specs.declared.head.Refused.{Refused}
use Rattle.lp_cert.specs.declared.head.OwnFork.{OwnFork}
use Rattle.lp_definitions.specs.Certificates.{after_refusal, birth_line}
use Rattle.lp_cert.specs.Heads.{head_lines}

-- a reason speaks of no more than so many scans, of one at least where it speaks of scans
abbrev pub FitsIn : ℕ → Reason → Type 0
FitsIn scans (reason.One line) = Unit {0}
FitsIn scans (reason.Busy group task first end) = (first < end) × (end ≤ scans)

-- what continues began with a check, before which there were no more scans than so many
abbrev pub ContinuesIn : ℕ → Ongoing → Type 0
ContinuesIn scans Nothing = Unit {0}
ContinuesIn scans (Hold task serial from last) = last.scans ≤ scans
ContinuesIn scans (Busy task first) = first ≤ scans

-- what was checked last isn't in front: there is nothing, or a birth
abbrev pub IsUnchecked : List Reason → Type 0
IsUnchecked [] = Unit {0}
IsUnchecked (reason.One (line.Born group parent at) ∷ older) = Unit {0}
IsUnchecked _ = ⊥

-- the newest reason is that this task was busy
abbrev pub IsBusyInFront : TaskId → List Reason → Type 0
IsBusyInFront task (reason.One (line.Busy group t at) ∷ older) = t ≡ task
IsBusyInFront task _ = ⊥

-- what continues fits the older reasons: where nothing continues, nothing was checked last; and who was busy at no scan yet was so
-- at its own check
abbrev pub FitsOlder : ℕ → Ongoing → List Reason → Type 0
FitsOlder scans Nothing older = IsUnchecked older
FitsOlder scans (Hold task serial from last) older = Unit {0}
FitsOlder scans (Busy task first) older = (first < scans) ⊎ IsBusyInFront task older

-- the reasons of a group after so many scans, over these lists
pub record IsHead (lists : List (List Reason)) (scans : ℕ) (head : Head) : Type 0 where
  pub known : head.older.0 < length lists
  pub fits : AllByRecursion (FitsIn scans) (slice_index_or lists head.older.0 [])
  pub continues : ContinuesIn scans head.ongoing
  pub fits_older : FitsOlder scans head.ongoing (slice_index_or lists head.older.0 [])

-- earlier lists stay
pub record Keeps (old new : List (List Reason)) : Type 0 where
  pub no_less : length old ≤ length new
  pub same : (i : ℕ) → i < length old → slice_index_or new i [] ≡ slice_index_or old i []

-- the model uses the check that blamed so
abbrev pub IsUsed : Blame → Type 0
IsUsed blame.Unused = ⊥
IsUsed _ = Unit {0}

-- of a hold that continues, whether its frame is still on its task's stack
abbrev pub HasFrameAs : (has_frame : (task serial : ℕ) → Bool) → Ongoing → Bool → Type 0
HasFrameAs has_frame (Hold task serial from last) frame_stands = has_frame task.0 serial ≡ frame_stands
HasFrameAs has_frame _ frame_stands = Unit {0}

-- a reason is a hold whose frame is still on its task's stack
abbrev pub is_held : (has_frame : (task serial : ℕ) → Bool) → Ongoing → Bool
is_held has_frame (Hold task serial from last) = has_frame task.0 serial
is_held has_frame _ = false

abbrev pub is_busy : Blame → Bool
is_busy blame.Busy = true
is_busy _ = false

-- a refusal lets the newest reason continue
abbrev pub continues_after : Ongoing → Refused → Bool
continues_after Nothing refused = false
continues_after (Hold task serial from last) refused = refused.frame_stands
continues_after (Busy task first) refused = is_busy refused.blame && nat_eq refused.task.0 task.0

-- the reason that begins with a refusal, after so many scans
abbrev pub reason_begun_by : ℕ → TaskId → ℕ → Blame → Ongoing
reason_begun_by scans task at (blame.Frame serial) = Hold task serial at (record { at = at; scans = scans })
reason_begun_by scans task at blame.Busy = Busy task scans
reason_begun_by scans task at blame.Unused = Nothing

-- the lines of a group with a refusal at one more scan, of the member whose number is the least
pub record IsRefusedBy (refused : Refused) (group : GroupId) (scans : List ℕ) (head next : Head) (old new : List (List Reason)) : Type 0 where
  pub lines :
      (has_frame : (task serial : ℕ) → Bool) → HasFrameAs has_frame head.ongoing refused.frame_stands →
      head_lines new (scans ++ refused.at ∷ []) group next
      ≡ after_refusal has_frame group.0 refused.at (refused.task.0, refused.blame) (head_lines old scans group head)
  pub stands : IsHead new (length scans + 1) next
  pub kept : Keeps old new

-- a refusal as busy that is no scan's
abbrev pub busy_reasons : GroupId → Refused → List Reason
busy_reasons group refused = if is_busy refused.blame then reason.One (line.Busy group refused.task refused.at) ∷ [] else []

-- the lines of a group with a refusal of its only member by the member's own check
pub record IsRefusedAlone (refused : Refused) (group : GroupId) (scans : List ℕ) (head next : Head) (old new : List (List Reason)) : Type 0 where
  pub lines :
      (has_frame : (task serial : ℕ) → Bool) → HasFrameAs has_frame head.ongoing refused.frame_stands →
      head_lines new scans group next
      ≡ after_refusal has_frame group.0 refused.at (refused.task.0, refused.blame) (head_lines old scans group head)
  pub stands : IsHead new (length scans) next
  pub kept : Keeps old new

-- the lines of a group as it is born: those of its parent's group, and the birth
pub record IsBornBy (birth : OwnFork) (group : GroupId) (scans : List ℕ) (head next : Head) (old new : List (List Reason)) : Type 0 where
  pub lines :
      head_lines new scans birth.child next
      ≡ birth_line birth.child.0 birth.parent birth.at ∷ head_lines old scans group head
  pub stands : IsHead new (length scans) next
  pub kept : Keeps old new
