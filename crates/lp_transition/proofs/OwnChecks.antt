-- What holds of every own check.
use Rattle.std.proofs.Common.{◌≡◌, ℕ, true, false, None, refl}
use Rattle.lp_stack.specs.declared.number.TaskId.{TaskId}
use Rattle.lp_model.specs.declared.check.CheckKind.{CheckKind}
use Rattle.lp_model.specs.declared.check.CheckKind.TheVariants.{KernelExit, IdlePoint, Resched, Walk, Stop}
use Rattle.lp_model.specs.Rules.{Rules}
use Rattle.lp_definitions.specs.Events.{is_control}
use Rattle.lp_definitions.specs.Tasks.{Bounds, Grouping, change}
use Rattle.lp_definitions.specs.Leg.{LegTask, State}
use Rattle.lp_definitions.specs.Run.{switched}
use Rattle.lp_machine.specs.Machine.{LegTasks, refusal_of, own_effect, affected, told, switched_groups}
use Rattle.lp_machine.specs.Table.{Engine, state_in}
use Rattle.lp_tasks.specs.inside.OwnChecks.{is_own_kind, own_check_event, at_own_check}
use Rattle.lp_machine.proofs.Accept.{IsLive, exit-live, idle-live, resched-live}
use Rattle.lp_machine.proofs.Alone.{ChecksAlone}
use Rattle.lp_transition.proofs.LoneChecks.{same-after_nothing}

pub own_check-level : (kind : CheckKind) (x : LegTask) → (at_own_check kind x).level ≡ x.level
own_check-level kind x = refl

pub own_check-group : (kind : CheckKind) (x : LegTask) → (at_own_check kind x).group ≡ x.group
own_check-group kind x = refl

pub own_check-plain : (kind : CheckKind) (t : TaskId) → is_control (own_check_event kind t) ≡ false
own_check-plain KernelExit t = refl
own_check-plain IdlePoint t = refl
own_check-plain Resched t = refl
own_check-plain Walk t = refl
own_check-plain Stop t = refl

pub own_check-checks : (bounds : Bounds) (now : LegTasks) (kind : CheckKind) (t : TaskId) → is_own_kind kind ≡ true → ChecksAlone bounds now (own_check_event kind t) t.0 kind
own_check-checks bounds now KernelExit t own_check = λ k. refl
own_check-checks bounds now IdlePoint t own_check = λ k. refl
own_check-checks bounds now Resched t own_check = λ k. refl
own_check-checks bounds now Walk t own_check = cc
own_check-checks bounds now Stop t own_check = cc

-- its own effect
pub own_check-own : (grouping : Grouping) (number : ℕ) (kind : CheckKind) (t : TaskId) (now : LegTasks) → own_effect grouping number (own_check_event kind t) now ≡ change t.0 (at_own_check kind) now
own_check-own grouping number KernelExit t now = refl
own_check-own grouping number IdlePoint t now = same-after_nothing t.0 now
own_check-own grouping number Resched t now = same-after_nothing t.0 now
own_check-own grouping number Walk t now = same-after_nothing t.0 now
own_check-own grouping number Stop t now = same-after_nothing t.0 now

-- who makes it lives
pub own_check-live : (model : Rules) (e : Engine) (kind : CheckKind) (t : TaskId) → refusal_of model (state_in e) (own_check_event kind t) ≡ None → IsLive e t.0
own_check-live model e KernelExit t accepted = exit-live model e t accepted
own_check-live model e IdlePoint t accepted = idle-live model e t accepted
own_check-live model e Resched t accepted = resched-live model e t accepted
own_check-live model e Walk t accepted = idle-live model e t accepted
own_check-live model e Stop t accepted = idle-live model e t accepted

-- and it is answered by who switches
pub own_check-told : (model : Rules) (s : State) (kind : CheckKind) (t : TaskId) → told model s (own_check_event kind t) ≡ switched (switched_groups model (affected model s (own_check_event kind t)) (own_check_event kind t))
own_check-told model s KernelExit t = refl
own_check-told model s IdlePoint t = refl
own_check-told model s Resched t = refl
own_check-told model s Walk t = refl
own_check-told model s Stop t = refl
