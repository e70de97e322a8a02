-- The machine's step in the cases that an engine tells apart.
use Rattle.std.proofs.Common.{◌≡◌, ℕ, Bool, true, false, not, ◌&&◌, Option, Some, None, is_some, refl, ap, ◌∙◌}
use Rattle.std.proofs.lemmas.Bool.{cond-true, cond-false}
use mathlib.Core.Path.{fun_ext}
use Rattle.lp_model.specs.Rules.{Rules}
use Rattle.lp_definitions.specs.declared.event.Event.{Event}
use Rattle.lp_definitions.specs.declared.event.Event.TheVariants.{Call, Ret, Sleep, Wake, Enter, Exit, Idle, Resched, Fork, Die, Walk, Stop, Enable, Disable, Reverse}
use Rattle.lp_definitions.specs.declared.refusal.Refusal.{Refusal}
use Rattle.lp_definitions.specs.Events.{is_control}
use Rattle.lp_definitions.specs.Tasks.{Fate, Unused, Live, Dead, on_live, map_live, is_unused}
use Rattle.lp_definitions.specs.Leg.{LegTask, State}
use Rattle.lp_machine.specs.Machine.{waits_in, switches_at, switched_task, refusal_of, counted, affected, with_switches, turned, next_by, next, answer_by, answer}
use Rattle.lp_machine.specs.Table.{fate_at}

-- who lives has a number that was used
pub used-fate : (o : Option LegTask) (b : Bool) → (is_some o ≡ true → b ≡ true) → b ≡ not (is_unused (fate_at o b))
used-fate None true h = refl
used-fate None false h = refl
used-fate (Some x) b h = h refl

pub and-false : (b : Bool) → (b && false) ≡ false
and-false true = refl
and-false false = refl

-- an event that checks no group: one that is neither a scan nor the leaving of the kernel, nor a control event
abbrev pub is_unchecked : Event → Bool
is_unchecked (Exit t) = false
is_unchecked (Idle t) = false
is_unchecked (Resched t) = false
is_unchecked Walk = false
is_unchecked Stop = false
is_unchecked Enable = false
is_unchecked Disable = false
is_unchecked Reverse = false
is_unchecked _ = true

module _ (model : Rules) where
  -- a quiet event takes no group over
  pub unchecked-stays : (now : State) (event : Event) (group : ℕ) → is_unchecked event ≡ true → switches_at model now event group ≡ false
  unfolding switches_at
  unchecked-stays now (Call t f) group q = and-false (waits_in now group)
  unchecked-stays now (Ret t) group q = and-false (waits_in now group)
  unchecked-stays now (Sleep t) group q = and-false (waits_in now group)
  unchecked-stays now (Wake t) group q = and-false (waits_in now group)
  unchecked-stays now (Enter t) group q = and-false (waits_in now group)
  unchecked-stays now (Fork p c how) group q = and-false (waits_in now group)
  unchecked-stays now (Die t) group q = and-false (waits_in now group)
  unchecked-stays now (Exit t) group q = cc
  unchecked-stays now (Idle t) group q = cc
  unchecked-stays now (Resched t) group q = cc
  unchecked-stays now Walk group q = cc
  unchecked-stays now Stop group q = cc
  unchecked-stays now Enable group q = cc
  unchecked-stays now Disable group q = cc
  unchecked-stays now Reverse group q = cc

  -- a quiet event is no control event
  pub unchecked-control : (event : Event) → is_unchecked event ≡ true → is_control event ≡ false
  unchecked-control (Call t f) q = refl
  unchecked-control (Ret t) q = refl
  unchecked-control (Sleep t) q = refl
  unchecked-control (Wake t) q = refl
  unchecked-control (Enter t) q = refl
  unchecked-control (Fork p c how) q = refl
  unchecked-control (Die t) q = refl
  unchecked-control (Exit t) q = cc
  unchecked-control (Idle t) q = cc
  unchecked-control (Resched t) q = cc
  unchecked-control Walk q = cc
  unchecked-control Stop q = cc
  unchecked-control Enable q = cc
  unchecked-control Disable q = cc
  unchecked-control Reverse q = cc

  still-task : (now : State) (event : Event) → ((group : ℕ) → switches_at model now event group ≡ false) → (fate : Fate LegTask) → map_live (switched_task model now event) fate ≡ fate
  still-task now event none Unused = refl
  still-task now event none (Live x) = ap Live (cond-false _ _ _ (none x.group))
  still-task now event none Dead = refl

  -- where no group switches the tasks stay as the event's own effect left them
  pub switched-still : (s : State) (event : Event) → ((group : ℕ) → switches_at model (affected model s event) event group ≡ false) → with_switches model s event ≡ affected model s event
  switched-still s event none =
      let now = affected model s event in
      ap {A = ℕ → Fate LegTask} {B = State} (λ tasks. record now { tasks = tasks }) (fun_ext (λ t. still-task now event none (now.tasks t)))

  -- a refused event takes a number and changes nothing else
  pub next-refused : (s : State) (event : Event) (why : Refusal) → refusal_of model s event ≡ Some why → next model s event ≡ counted model s
  unfolding next
  next-refused s event why e = ap (next_by model s event) e

  pub answer-refused : (s : State) (event : Event) (why : Refusal) → refusal_of model s event ≡ Some why → answer model s event ≡ answer_by model s event (Some why)
  unfolding answer
  answer-refused s event why e = ap (answer_by model s event) e

  pub answer-accepted : (s : State) (event : Event) → refusal_of model s event ≡ None → answer model s event ≡ answer_by model s event None
  unfolding answer
  answer-accepted s event e = ap (answer_by model s event) e

  -- an accepted event that is no control event
  pub next-accepted : (s : State) (event : Event) → refusal_of model s event ≡ None → is_control event ≡ false → next model s event ≡ with_switches model s event
  unfolding next
  next-accepted s event e c = ap (next_by model s event) e ∙ cond-false _ _ _ c

  -- an accepted control event
  pub next-turned : (s : State) (event : Event) → refusal_of model s event ≡ None → is_control event ≡ true → next model s event ≡ turned model s event
  unfolding next
  next-turned s event e c = ap (next_by model s event) e ∙ cond-true _ _ _ c

  -- an event at which no group switches has its own effect alone
  pub next-still : (s : State) (event : Event) → refusal_of model s event ≡ None → is_control event ≡ false → ((group : ℕ) → switches_at model (affected model s event) event group ≡ false) → next model s event ≡ affected model s event
  next-still s event e c none = next-accepted s event e c ∙ switched-still s event none

-- a change that keeps levels keeps who is off the target
level-kept : (f : LegTask → LegTask) → ((x : LegTask) → (f x).level ≡ x.level) → (test : ℕ → Bool) (fate : Fate LegTask) → on_live true (λ x. test x.level) (map_live f fate) ≡ on_live true (λ x. test x.level) fate
level-kept f keeps test Unused = refl
level-kept f keeps test (Live x) = ap test (keeps x)
level-kept f keeps test Dead = refl
