-- What the engine knows of its last scan after each event: which waiting groups nothing happened to since.
use Rattle.std.specs.Prelude.{◌≡◌, ◌⊎◌, ◌↔◌, ℕ, true, false, List, Option, Some, None, if◌then◌else◌, nat_eq, IsTrue}
use Rattle.lp_numbers.specs.Numbers.{has, IsEmpty}
use Rattle.lp_model.specs.Rules.{Rules}
use Rattle.lp_model.specs.declared.check.CheckKind.{CheckKind}
use Rattle.lp_model.specs.declared.check.CheckKind.TheVariants as check
use Rattle.lp_model.specs.declared.verdict.Verdict.{Verdict}
use Rattle.lp_definitions.specs.declared.event.Event.{Event}
use Rattle.lp_definitions.specs.declared.event.Event.TheVariants.{Walk, Stop}
use Rattle.lp_definitions.specs.Events.{is_control}
use Rattle.lp_definitions.specs.Tasks.{Live}
use Rattle.lp_definitions.specs.Leg.{LegTask, State}
use Rattle.lp_machine.specs.Machine.{refusal_of}
use Rattle.lp_machine.specs.Table.{Engine, state_in}
use Rattle.lp_transition.specs.Blames.{TellOf, is_open}
use Rattle.lp_transition.specs.Scan.{verdicts_of, MayLeaveOut}

-- the kind of scan that the model uses, if it is one
abbrev pub used_kind : Rules → CheckKind → Option CheckKind
used_kind model kind = if model.uses kind then Some kind else None

-- the kind of scan that an event is, if the model uses it
abbrev pub used_scan : Rules → Event → Option CheckKind
used_scan model Walk = used_kind model check.Walk
used_scan model Stop = used_kind model check.Stop
used_scan model _ = None

-- of a scan of this kind the verdicts are of all waiting tasks, or they tell of each group that has changed since the last scan, which
-- was of this kind too
abbrev pub TellOfChanges : Rules → Engine → CheckKind → List Verdict → Type 0
TellOfChanges model e kind verdicts =
    (verdicts ≡ verdicts_of model kind (state_in e))
    ⊎ ((e.last_scan.kind ≡ Some kind) × TellOf model kind (state_in e) (has e.last_scan.changed) verdicts)

-- a scan of this kind, which the model uses, may leave out every group that waits: the last one was of this kind, and nothing happened
-- since to a group that no frame holds back
pub record IsQuietScan (model : Rules) (e : Engine) (kind : CheckKind) : Type 0 where
  pub used : IsTrue (model.uses kind)
  pub last : e.last_scan.kind ≡ Some kind
  pub unchanged : IsEmpty e.last_scan.changed
  pub left_out : MayLeaveOut model kind (state_in e) (λ group. false)

-- the members of the group are who they were, and each stands as it stood
abbrev pub AreSameMembers : (before after : State) → (group : ℕ) → Type 0
AreSameMembers before after group = (t : ℕ) (x : LegTask) → x.group ≡ group → (before.tasks t ≡ Live x) ↔ (after.tasks t ≡ Live x)

-- what the engine knows of the last scan after an event: it may know of none at any time
pub record IsLastScanAfter (model : Rules) (old : Engine) (event : Event) (new : Engine) : Type 0 where
  -- after a scan that the model uses it knows of no other
  pub scan : (on kind : CheckKind) → used_scan model event ≡ Some on → new.last_scan.kind ≡ Some kind → kind ≡ on
  -- and of nobody to whom something has happened since
  pub fresh : (on kind : CheckKind) → used_scan model event ≡ Some on → new.last_scan.kind ≡ Some kind → IsEmpty new.last_scan.changed
  -- nothing is known where a leg opens
  pub opening : is_control event ≡ true → refusal_of model (state_in old) event ≡ None → new.last_scan.kind ≡ None
  -- after any other event it knows of none but the one from before
  pub kind : used_scan model event ≡ None → (on : CheckKind) → new.last_scan.kind ≡ Some on → old.last_scan.kind ≡ Some on
  -- and a waiting group that no frame holds back counts as unchanged where it did so, and nothing happened to it
  pub others :
      used_scan model event ≡ None → (on : CheckKind) → new.last_scan.kind ≡ Some on →
      (t : ℕ) (x : LegTask) → (state_in new).tasks t ≡ Live x → nat_eq x.level (state_in new).target ≡ false → is_open new x.group ≡ true → has new.last_scan.changed x.group ≡ false →
      (has old.last_scan.changed x.group ≡ false) × AreSameMembers (state_in old) (state_in new) x.group
