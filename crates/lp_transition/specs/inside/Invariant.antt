-- What holds of an engine between events, with what it keeps beside the tasks so as not to look at each.
use Rattle.std.specs.Prelude.{◌≡◌, ◌⊎◌, ℕ, ◌≤◌, true, false, not, ◌&&◌, List, length, Option, Some}
use Rattle.std.specs.List.{list_any}
use Rattle.std.specs.Option.{ForSome}
use Rattle.lp_numbers.specs.Numbers.{Numbers, has, IsEmpty}
use Rattle.lp_model.specs.Rules.{Rules}
use Rattle.lp_model.specs.declared.check.CheckKind.{CheckKind}
use Rattle.lp_model.specs.declared.verdict.Verdict.{Verdict}
use Rattle.lp_definitions.specs.Leg.{LegTask, State}
use Rattle.lp_transition.specs.Scan.{MayLeaveOut}
use Rattle.lp_definitions.specs.Sound.{IsSound}
use Rattle.lp_machine.specs.Table.{Engine, LastScan, IsWide, state_in, slot}
use Rattle.lp_tasks.specs.inside.Table.{is_off}
use Rattle.lp_transition.specs.inside.ScanSteps.{admits_task}
use Rattle.lp_transition.specs.inside.Blames.{AreBlamed}
use Rattle.lp_transition.specs.inside.FirstRefusals.{AdmitsOthers}

-- a live task that is off the level to which tasks go is on the one that they come from
abbrev pub IsBetween : (from target : ℕ) → Option LegTask → Type 0
IsBetween from target o = is_off target o ≡ true → is_off from o ≡ false

-- an engine, and the numbers of the tasks that wait
pub record IsEngine (engine : Engine) (waiting : Numbers) : Type 0 where
  pub sound : IsSound (state_in engine)
  pub wide : IsWide engine.table
  -- the tasks that wait are the live ones off the target
  pub waiting_wide : length waiting ≡ 65536
  pub waits : (t : ℕ) → has waiting t ≡ is_off engine.target (slot engine.table t)
  -- so an opening takes whole sets of tasks from one level to the other
  pub between : (t : ℕ) → IsBetween engine.from engine.target (slot engine.table t)
  pub from_fits : engine.from ≤ length engine.patches
  pub target_fits : engine.target ≤ length engine.patches
  pub number_fits : engine.number ≤ 1000000

-- the kind of the leg's last scan, if one is to be gone by, the groups to which something happened since, and the tasks that a scan of this kind may refuse
pub record KeptScan : Type 0 where
  pub kind : Option CheckKind
  pub changed : Numbers
  pub may_refuse : Numbers

-- what contracts see of it
abbrev pub told_scan : KeptScan → LastScan
told_scan kept = record { kind = kept.kind; changed = kept.changed }

-- what a scan of this kind told before stands
pub record AreUnchanged (model : Rules) (kind : CheckKind) (s : State) (last : KeptScan) : Type 0 where
  -- another one may leave out the groups to which nothing happened
  pub left_out : MayLeaveOut model kind s (has last.changed)
  -- and would admit each waiting task that isn't among those that it may refuse
  pub admitted : AdmitsOthers model kind s (has last.may_refuse)

-- what is kept of a scan of a kind, by its verdicts and by who waits after it
pub record IsNoted (on : CheckKind) (waiting : Numbers) (verdicts : List Verdict) (old new : KeptScan) : Type 0 where
  pub noted : new.kind ≡ Some on
  pub fresh : IsEmpty new.changed
  -- whom it might refuse: if the last one was of this kind, whom that one might, else all that wait
  pub doubted : Numbers
  pub begun : ((old.kind ≡ Some on) × (doubted ≡ old.may_refuse)) ⊎ (doubted ≡ waiting)
  -- but for those that it admitted
  pub left : (t : ℕ) → has new.may_refuse t ≡ (has doubted t && not (list_any (admits_task t) verdicts))

-- an engine with what it keeps of its last scan
pub record IsCore (model : Rules) (e : Engine) (waiting : Numbers) (last : KeptScan) : Type 0 where
  pub engine : IsEngine e waiting
  pub unchanged : ForSome last.kind (λ kind. AreUnchanged model kind (state_in e) last)

-- the same, with the standing blames
pub record IsWhole (model : Rules) (e : Engine) (waiting : Numbers) (last : KeptScan) : Type 0 where
  pub core : IsCore model e waiting last
  pub open core use {engine, unchanged}
  pub groups : length e.blames ≤ 65536
  pub blamed : AreBlamed model (state_in e) e.blames
