-- What events make of the groups that wait, and of their lines.
use Rattle.std.specs.Prelude.{◌≡◌, ◌≢◌, ◌⊎◌, ℕ, suc, ◌+◌, ◌<◌, ◌≤◌, Bool, true, false, not, ◌&&◌, List, [], ◌++◌, ◌∷◌, length, nat_eq, Option, Some, None, is_some, IfSome, OnOk, Result, if◌then◌else◌}
use Rattle.std.specs.List.{AllByRecursion, list_any}
use Rattle.std.specs.Option.{option_map}
use Rattle.lp_numbers.specs.Numbers.{Numbers, has}
use Rattle.lp_stack.specs.declared.number.GroupId.{GroupId}
use Rattle.lp_stack.specs.declared.number.TaskId.{TaskId}
use Rattle.lp_model.specs.Rules.{Rules}
use Rattle.lp_model.specs.declared.check.ForkKind.{ForkKind}
use Rattle.lp_model.specs.declared.check.Blame.{Blame}
use Rattle.lp_model.specs.declared.verdict.Verdict.{Verdict}
use Rattle.lp_model.specs.declared.check.CheckKind.{CheckKind}
use Rattle.lp_model.specs.declared.check.CheckKind.TheVariants as check
use Rattle.lp_definitions.specs.declared.event.Event.{Event}
use Rattle.lp_definitions.specs.declared.event.Event.TheVariants.{Resched, Walk, Stop, Fork, Die}
use Rattle.lp_definitions.specs.Tasks.{on_live}
use Rattle.lp_definitions.specs.Leg.{LegTask, State, some_live, is_alone}
use Rattle.lp_machine.specs.Machine.{outlines_of}
use Rattle.lp_machine.specs.Table.{Table, Engine, slot, leg_tasks, bounds_of, state_in}
use Rattle.lp_tasks.specs.Passing.{passing}
use Rattle.lp_tasks.specs.inside.Table.{is_in, is_off}
use Rattle.lp_definitions.specs.declared.line.Line.{Line}
use Rattle.lp_cert.specs.declared.reason.Reason.{Reason}
use Rattle.lp_cert.specs.declared.head.OwnFork.{OwnFork}
use Rattle.lp_cert.specs.declared.head.Waiter.{Waiter}
use Rattle.lp_definitions.specs.Certificates.{after_refusal, birth_line, group_id}
use Rattle.lp_cert.specs.Heads.{head_lines}
use Rattle.lp_cert.specs.inside.Heads.{IsHead, IsUsed, Keeps}
use Rattle.lp_transition.specs.Blames.{has_frame_in, own_blame}
use Rattle.lp_transition.specs.Scan.{member_verdict, first_refused}
use Rattle.lp_cert.specs.Waiters.{no_head, LegReasons, head_of, WaitingGroups}

-- the lines of a group, the newest in front
abbrev pub lines_in : LegReasons → ℕ → List Line
lines_in reasons group = head_lines reasons.lists reasons.scans (group_id group) (head_of reasons group)

-- the group's reasons speak of so many scans
abbrev pub StandsAt : ℕ → LegReasons → ℕ → Type 0
StandsAt scans reasons group = IsHead reasons.lists scans (head_of reasons group)

-- the group waits, and the scan hasn't refused it so far
abbrev pub is_left : (waiting refused : Numbers) → (group : ℕ) → Bool
is_left waiting refused group = has waiting group && not (has refused group)

-- a list is longer by some, and by all of these if the call went well
pub record IsLonger {A E : Type 0} (old new : List GroupId) (result : Result A E) (all : List GroupId) : Type 0 where
  pub more : List GroupId
  pub longer : new ≡ old ++ more
  pub done : OnOk result (more ≡ all)

-- a scan refused the group, blaming this member
pub record IsRefusedOnce (s : State) (at group : ℕ) (blamed : ℕ × Blame) (old new : LegReasons) : Type 0 where
  pub lines :
      head_lines new.lists (old.scans ++ at ∷ []) (group_id group) (head_of new group)
      ≡ after_refusal (has_frame_in s) group at blamed (lines_in old group)
  pub stands : StandsAt (length old.scans + 1) new group

-- a verdict of a scan is noted: of a group that waits and wasn't refused before by this scan, which the verdict refuses, the
-- reasons continue as after one scan more; of any other nothing changes
pub record IsJudged (s : State) (at : ℕ) (verdict : Verdict) (groups left : ℕ → Bool) (old new : LegReasons) : Type 0 where
  pub judged :
      (group : ℕ) (blamed : ℕ × Blame) → groups group ≡ true → member_verdict s group verdict ≡ Some blamed →
      (left group ≡ false) × IsRefusedOnce s at group blamed old new
  pub others :
      (group : ℕ) → (if groups group then member_verdict s group verdict else None) ≡ None →
      (left group ≡ groups group) × (head_of new group ≡ head_of old group)
  pub kept : Keeps old.lists new.lists
  pub scans : new.scans ≡ old.scans
  pub room : old.room ≤ new.room + 1
  pub scan_room : new.scan_room ≡ old.scan_room

-- verdicts of a scan are noted: each group that waits and is refused has its reasons as after one scan more
pub record AreJudged (s : State) (at : ℕ) (verdicts : List Verdict) (groups left : ℕ → Bool) (old new : LegReasons) : Type 0 where
  pub judged :
      (group : ℕ) (blamed : ℕ × Blame) → groups group ≡ true → first_refused s group verdicts ≡ Some blamed →
      (left group ≡ false) × IsRefusedOnce s at group blamed old new
  pub others :
      (group : ℕ) → (if groups group then first_refused s group verdicts else None) ≡ None →
      (left group ≡ groups group) × (head_of new group ≡ head_of old group)
  pub kept : Keeps old.lists new.lists
  pub scans : new.scans ≡ old.scans
  pub room : old.room ≤ new.room + length verdicts
  pub scan_room : new.scan_room ≡ old.scan_room

-- the lines of a group, the newest in front, if it waits
abbrev pub lines_at : WaitingGroups → ℕ → Option (List Line)
lines_at waiters group = if has waiters.groups group then Some (lines_in waiters.reasons group) else None

-- the groups that wait have reasons
abbrev pub AreStanding : WaitingGroups → Type 0
AreStanding waiters = (group : ℕ) → has waiters.groups group ≡ true → StandsAt (length waiters.reasons.scans) waiters.reasons group

-- the lines of a group after a scan, by who of it is the first that the scan is told to refuse: where none is, what continues
-- continues
abbrev pub after_verdict : State → (at : ℕ) → Option (ℕ × Blame) → LegReasons → (group : ℕ) → List Line
after_verdict s at None reasons group = head_lines reasons.lists (reasons.scans ++ at ∷ []) (group_id group) (head_of reasons group)
after_verdict s at (Some blamed) reasons group = after_refusal (has_frame_in s) group at blamed (lines_in reasons group)

-- the lines of a group after a scan, with what it found of the tasks that it looked at
abbrev pub scanned_lines : State → (at : ℕ) → List Verdict → WaitingGroups → (group : ℕ) → Option (List Line)
scanned_lines s at verdicts waiters group =
    if has waiters.groups group then Some (after_verdict s at (first_refused s group verdicts) waiters.reasons group) else None

-- the lines of a group after a scan, if it still waits: it does where the scan refuses it
abbrev pub after_scan : (has_frame : (task serial : ℕ) → Bool) → (group at : ℕ) → Option (ℕ × Blame) → Option (List Line) → Option (List Line)
after_scan has_frame group at None lines = None
after_scan has_frame group at (Some blamed) lines = option_map (after_refusal has_frame group at blamed) lines

-- who is blamed is blamed for a check that the model uses
abbrev pub IsUsedVerdict : Verdict → Type 0
IsUsedVerdict verdict = IfSome verdict.blame IsUsed

-- the lines of a group after a birth into a group of the child's own
abbrev pub after_birth : OwnFork → (parent : ℕ) → (ℕ → Option (List Line)) → (group : ℕ) → Option (List Line)
after_birth birth parent lines group =
    if nat_eq group birth.child.0
    then option_map (λ ls. birth_line birth.child.0 birth.parent birth.at ∷ ls) (lines parent)
    else lines group

-- no group that waits has a line
abbrev pub IsBare : LegReasons → ℕ → Type 0
IsBare reasons group = lines_in reasons group ≡ []

abbrev pub AreBare : WaitingGroups → Type 0
AreBare waiters = AllByRecursion (IsBare waiters.reasons) (passing 0 65536 (has waiters.groups))

-- their reasons speak of so many scans
abbrev pub AreHeads : List (List Reason) → ℕ → List Waiter → Type 0
AreHeads lists scans waiters = AllByRecursion (λ waiter. IsHead lists scans waiter.head) waiters

-- the group has a live task off the level, under this number
abbrev pub is_off_here : Table → (level group task : ℕ) → Bool
is_off_here table level group t = is_in group (slot table t) && is_off level (slot table t)

-- a group begins to wait, as a live task of it is off the level
pub record BeginsToWait (table : Table) (level group : ℕ) (left : Numbers) (new : LegReasons) : Type 0 where
  pub task : ℕ
  pub off : is_off_here table level group task ≡ true
  pub waits : has left group ≡ true
  pub headless : head_of new group ≡ no_head

-- a group stays as it was, as no live task of it is off the level
pub record Stays (table : Table) (level group : ℕ) (groups left : Numbers) (old new : LegReasons) : Type 0 where
  pub on : (task : ℕ) → is_off_here table level group task ≡ false
  pub waits : has left group ≡ has groups group
  pub head : head_of new group ≡ head_of old group

-- a group begins to wait, if a live task of it is off the level
pub record IsTakenIn (table : Table) (level group : ℕ) (groups left : Numbers) (old new : LegReasons) : Type 0 where
  pub here : BeginsToWait table level group left new ⊎ Stays table level group groups left old new
  pub others : (other : ℕ) → other ≢ group → (has left other ≡ has groups other) × (head_of new other ≡ head_of old other)
  pub lists : new.lists ≡ old.lists
  pub scans : new.scans ≡ old.scans

-- the groups below a number that have a live task off the level wait
pub record AreTakenIn (table : Table) (level bound : ℕ) (groups : Numbers) (old new : LegReasons) : Type 0 where
  pub all : (group task : ℕ) → group < bound → is_off_here table level group task ≡ true → has groups group ≡ true
  pub only : (group : ℕ) → has groups group ≡ true → (task : ℕ) × (is_off_here table level group task ≡ true)
  pub headless : (group : ℕ) → has groups group ≡ true → head_of new group ≡ no_head
  pub lists : new.lists ≡ old.lists
  pub scans : new.scans ≡ old.scans

-- the group has a live member off the level
abbrev pub has_off : State → (level group : ℕ) → Bool
has_off s level group = some_live s.bounds s.tasks (λ t x. nat_eq x.group group && not (nat_eq x.level level))

-- the lines of a group after an accepted fork of a member of another
abbrev pub after_fork : Rules → TaskId → TaskId → ForkKind → (at parents : ℕ) → (ℕ → Option (List Line)) → (group : ℕ) → Option (List Line)
after_fork model p c how at parents lines group =
    if is_some (lines parents) && (nat_eq group c.0 && nat_eq group (model.child_group parents c.0 how))
    then option_map (λ ls. birth_line group p at ∷ ls) (lines parents)
    else lines group

-- the lines of a group after the death of a member of one, which may have been alone in it
abbrev pub after_death : (mine : ℕ) → (alone : Bool) → (ℕ → Option (List Line)) → (group : ℕ) → Option (List Line)
after_death mine alone lines group = if nat_eq group mine && alone then None else lines group

-- the lines of a group after an own check in the kernel by a task, which may be alone in its own group
abbrev pub after_own_check : State → (t mine : ℕ) → (alone : Bool) → Option Blame → (ℕ → Option (List Line)) → (group : ℕ) → Option (List Line)
after_own_check s t mine alone None lines group = lines group
after_own_check s t mine alone (Some blame) lines group =
    if nat_eq group mine && alone then option_map (after_refusal (has_frame_in s) group (suc s.number) (t, blame)) (lines group) else lines group

-- the lines of a group after these groups switched
abbrev pub after_switch : List ℕ → (ℕ → Option (List Line)) → (group : ℕ) → Option (List Line)
after_switch gone lines group = if list_any (nat_eq group) gone then None else lines group

-- a task is the only live member of a group
abbrev pub is_lone : Engine → (task group : ℕ) → Bool
is_lone e t group = is_alone (bounds_of e.patches) (outlines_of (leg_tasks e.table)) group t

-- what the verdicts of a scan make of the lines of a group, where the model uses its kind
abbrev pub after_scan_of : Rules → State → CheckKind → List Verdict → (ℕ → Option (List Line)) → (group : ℕ) → Option (List Line)
after_scan_of model s kind verdicts lines group =
    if model.uses kind then after_scan (has_frame_in s) group (suc s.number) (first_refused s group verdicts) (lines group) else lines group

-- the lines of a group after an accepted event's own effect
abbrev pub own_lines : Rules → Engine → Event → List Verdict → (ℕ → Option (List Line)) → (group : ℕ) → Option (List Line)
own_lines model e Walk verdicts lines group = after_scan_of model (state_in e) check.Walk verdicts lines group
own_lines model e Stop verdicts lines group = after_scan_of model (state_in e) check.Stop verdicts lines group
own_lines model e (Fork p c how) verdicts lines group =
    on_live (lines group) (λ x. after_fork model p c how (suc e.number) x.group lines group) (leg_tasks e.table p.0)
own_lines model e (Die t) verdicts lines group =
    on_live (lines group) (λ x. after_death x.group (is_lone e t.0 x.group) lines group) (leg_tasks e.table t.0)
own_lines model e (Resched t) verdicts lines group =
    on_live (lines group) (λ x. after_own_check (state_in e) t.0 x.group (is_lone e t.0 x.group) (own_blame model (state_in e) t.0) lines group) (leg_tasks e.table t.0)
own_lines model e _ verdicts lines group = lines group

-- the group of a task that forks is a number below 65,536
abbrev pub HasFewGroups : Engine → Event → Type 0
HasFewGroups e (Fork p c how) = (x : LegTask) → slot e.table p.0 ≡ Some x → x.group < 65536
HasFewGroups e _ = Unit {0}
