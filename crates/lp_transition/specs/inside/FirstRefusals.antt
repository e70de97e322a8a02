-- Whom a scan asks that wants to know of each group the first member that it refuses, and what its verdicts then tell.
use Rattle.std.specs.Prelude.{◌≡◌, ℕ, ◌<◌, Bool, true, false, not, ◌&&◌, List, Option, None, is_some, if◌then◌else◌, nat_eq}
use Rattle.std.specs.List.{list_any}
use Rattle.lp_numbers.specs.Numbers.{Numbers, has}
use Rattle.lp_model.specs.declared.check.CheckKind.{CheckKind}
use Rattle.lp_model.specs.declared.verdict.Verdict.{Verdict}
use Rattle.lp_model.specs.Rules.{Rules}
use Rattle.lp_definitions.specs.Tasks.{Live}
use Rattle.lp_definitions.specs.Leg.{LegTask, State}
use Rattle.lp_machine.specs.Machine.{view_of}
use Rattle.lp_transition.specs.Scan.{RefusesMember, verdicts_at}
use Rattle.lp_machine.specs.Table.{Table, Engine, state_in}
use Rattle.lp_transition.specs.inside.ScanSteps.{is_found, task_switches, waiting_slot}

-- the task of a number, where it waits, may be refused, and is of a group that isn't refused so far
abbrev pub asked_slot : Table → (waiting may_refuse unrefused : Numbers) → ℕ → Option LegTask
asked_slot table waiting may_refuse unrefused t =
    if has may_refuse t && task_switches (has unrefused) (waiting_slot table waiting t) then waiting_slot table waiting t else None

-- a scan of this kind would admit each waiting task that fails a test
abbrev pub AdmitsOthers : Rules → CheckKind → State → (may_refuse : ℕ → Bool) → Type 0
AdmitsOthers model kind s may_refuse =
    (t : ℕ) (x : LegTask) → s.tasks t ≡ Live x → nat_eq x.level s.target ≡ false → may_refuse t ≡ false →
    model.blame kind (view_of t x) s.aim ≡ None

-- a scan that looks at who passes a test looks at a waiting member of the group, and refuses it
pub record SeesRefused (model : Rules) (kind : CheckKind) (s : State) (looked : ℕ → Bool) (group : ℕ) : Type 0 where
  pub refusal : RefusesMember model kind s group
  pub seen : looked refusal.member ≡ true

-- the same, and the member is before a task
abbrev pub SeesRefusedBefore : Rules → CheckKind → State → (looked : ℕ → Bool) → (group t : ℕ) → Type 0
SeesRefusedBefore model kind s looked group t = (h : SeesRefused model kind s looked group) × (h.refusal.member < t)

-- a pass over candidates has come to a place: what it found of those before it, and which of the groups aren't refused so far
pub record HasAsked (model : Rules) (kind : CheckKind) (e : Engine) (candidates may_refuse asked : ℕ → Bool) (place : ℕ) (verdicts : List Verdict) (unrefused : ℕ → Bool) : Type 0 where
  pub looked : ℕ → Bool
  pub found : verdicts ≡ verdicts_at model kind (state_in e) looked
  pub before : (t : ℕ) → looked t ≡ true → t < place
  pub only : (t : ℕ) (x : LegTask) → (state_in e).tasks t ≡ Live x → looked t ≡ true → asked x.group ≡ true
  pub left : (group : ℕ) → unrefused group ≡ (asked group && not (list_any (is_found e.table true group) verdicts))
  -- a candidate is passed over only after a refused member of its group
  pub passed : (t : ℕ) (x : LegTask) → (state_in e).tasks t ≡ Live x → nat_eq x.level e.target ≡ false → t < place →
      candidates t ≡ true → may_refuse t ≡ true → asked x.group ≡ true → looked t ≡ false →
      SeesRefusedBefore model kind (state_in e) looked x.group t

-- these verdicts are enough to tell of each group that passes a test the first member that a scan refuses
pub record AreTold (model : Rules) (kind : CheckKind) (s : State) (asked : ℕ → Bool) (verdicts : List Verdict) : Type 0 where
  pub looked : ℕ → Bool
  pub found : verdicts ≡ verdicts_at model kind s looked
  pub only : (t : ℕ) (x : LegTask) → s.tasks t ≡ Live x → looked t ≡ true → asked x.group ≡ true
  -- who is passed over has a refused member in its group
  pub others : (t : ℕ) (x : LegTask) → s.tasks t ≡ Live x → nat_eq x.level s.target ≡ false → asked x.group ≡ true → looked t ≡ false →
      SeesRefused model kind s looked x.group
  -- and has it before itself, if a scan refuses it
  pub first : (t : ℕ) (x : LegTask) → s.tasks t ≡ Live x → nat_eq x.level s.target ≡ false → asked x.group ≡ true → looked t ≡ false →
      is_some (model.blame kind (view_of t x) s.aim) ≡ true → SeesRefusedBefore model kind s looked x.group t
