-- An event that was weighed: its answer, and what the engine needs to take it without memory.
use Rattle.std.specs.Prelude.{◌≡◌, ◌⊎◌, ℕ, ◌<◌, Bool, true, false, List, [], Option, Some, None, nat_eq}
use Rattle.std.specs.List.{list_any}
use Rattle.lp_numbers.specs.Numbers.{has}
use Rattle.lp_model.specs.Rules.{Rules}
use Rattle.lp_model.specs.declared.check.CheckKind.{CheckKind}
use Rattle.lp_model.specs.declared.check.CheckKind.TheVariants as check
use Rattle.lp_model.specs.declared.verdict.Verdict.{Verdict}
use Rattle.lp_definitions.specs.declared.event.Event.{Event}
use Rattle.lp_definitions.specs.declared.event.Event.TheVariants.{Ret, Sleep, Wake, Enter, Exit, Idle, Resched, Fork, Walk, Stop}
use Rattle.lp_definitions.specs.declared.refusal.Refusal.{Refusal}
use Rattle.lp_definitions.specs.declared.reply.What.{What}
use Rattle.lp_definitions.specs.declared.reply.What.TheVariants.{Switched, Refused}
use Rattle.lp_definitions.specs.declared.reply.Reply.{Reply}
use Rattle.lp_definitions.specs.Tasks.{Live}
use Rattle.lp_definitions.specs.Leg.{LegTask, State}
use Rattle.lp_machine.specs.Machine.{answer}
use Rattle.lp_transition.specs.Blames.{is_open, AreBlamesAfter}
use Rattle.lp_transition.specs.LastScan.{used_scan}
use Rattle.lp_transition.specs.Scan.{is_of, AreEnough}
use Rattle.lp_machine.specs.Table.{Engine, state_in}

-- an event with its answer, and the verdicts that it was answered by
pub record Weighed : Type 0 where
  pub event : Event
  pub reply : Reply
  pub verdicts : List Verdict

-- an event may be answered by these verdicts: a scan by enough of them, and any other event by none
abbrev pub AreVerdictsFor : Rules → State → Event → List Verdict → Type 0
AreVerdictsFor model s Walk verdicts = AreEnough model check.Walk s verdicts
AreVerdictsFor model s Stop verdicts = AreEnough model check.Stop s verdicts
AreVerdictsFor model s _ verdicts = verdicts ≡ []

-- what a scan of this kind finds of the group is known: a frame holds it back, or nothing happened to it since the last scan, which was
-- of this kind too
abbrev pub IsKnown : Engine → CheckKind → (group : ℕ) → Type 0
IsKnown e kind group = (is_open e group ≡ false) ⊎ ((e.last_scan.kind ≡ Some kind) × (has e.last_scan.changed group ≡ false))

-- of a scan that the model uses the verdicts tell of each group that waits, but for those that are known
abbrev pub Tells : Rules → Engine → Event → List Verdict → Type 0
Tells model e event verdicts =
    (kind : CheckKind) → used_scan model event ≡ Some kind →
    (t : ℕ) (x : LegTask) → (state_in e).tasks t ≡ Live x → nat_eq x.level (state_in e).target ≡ false →
    (list_any (is_of (state_in e) x.group) verdicts ≡ true) ⊎ IsKnown e kind x.group

-- the event was weighed on this engine
pub record IsWeighed (model : Rules) (engine : Engine) (step : Weighed) : Type 0 where
  pub room : engine.number < 1000000
  pub reply : step.reply ≡ answer model (state_in engine) step.event
  pub verdicts : AreVerdictsFor model (state_in engine) step.event step.verdicts
  pub told : Tells model engine step.event step.verdicts

-- the event leaves the blames that it has to, by verdicts with which it may be answered
pub record HasBlamesAfter (model : Rules) (old : Engine) (event : Event) (new : Engine) : Type 0 where
  pub verdicts : List Verdict
  pub enough : AreVerdictsFor model (state_in old) event verdicts
  pub blames : AreBlamesAfter model old event verdicts new

-- the same, by verdicts that tell of each group that waits but for those that are known
pub record HasToldBlamesAfter (model : Rules) (old : Engine) (event : Event) (new : Engine) : Type 0 where
  pub by : HasBlamesAfter model old event new
  pub open by use {verdicts, enough, blames}
  pub told : Tells model old event verdicts

-- it is answered with no look at anybody: a return, a sleep, a wake-up, an entry into the kernel or a fork
abbrev pub is_answered_done : Event → Bool
is_answered_done (Ret t) = true
is_answered_done (Sleep t) = true
is_answered_done (Wake t) = true
is_answered_done (Enter t) = true
is_answered_done (Fork p c how) = true
is_answered_done _ = false

-- the task that makes it
abbrev pub done_task : Event → ℕ
done_task (Ret t) = t.0
done_task (Sleep t) = t.0
done_task (Wake t) = t.0
done_task (Enter t) = t.0
done_task (Fork p c how) = p.0
done_task _ = 0

-- ---- What an event did

-- it switched groups
abbrev pub is_switched : What → Bool
is_switched (Switched groups) = true
is_switched _ = false

-- why it was refused; None where it was accepted
abbrev pub refusal_in : What → Option Refusal
refusal_in (Refused why) = Some why
refusal_in _ = None

-- the event may allocate, which did this: at a scan, and where an own check switches a group
abbrev pub may_allocate : Event → What → Bool
may_allocate Walk what = true
may_allocate Stop what = true
may_allocate (Exit t) what = is_switched what
may_allocate (Idle t) what = is_switched what
may_allocate (Resched t) what = is_switched what
may_allocate _ what = false
