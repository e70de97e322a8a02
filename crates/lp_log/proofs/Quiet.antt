-- An event that is no check, or comes where nobody is left to switch, switches no group and wants no memory.
use Rattle.std.proofs.Common.{◌≡◌, ◌<◌, ◌≤◌, arith, suc, ◌&&◌, Bool, true, false, not, List, [], ◌∷◌, ℕ, filter, refl, ap, subst, sym, ◌∙◌, if◌then◌else◌}
use Rattle.std.specs.Prelude.{Option, Some, None, nat_eq}
use Rattle.std.specs.List.{range_with_len}
use mathlib.Core.Path.{fun_ext}
use Rattle.lp_stack.specs.declared.view.Mode.TheVariants.{User}
use Rattle.lp_stack.specs.declared.number.TaskId.{TaskId}
use Rattle.lp_model.specs.Rules.{Rules}
use Rattle.lp_definitions.specs.declared.event.Event.{Event}
use Rattle.lp_definitions.specs.declared.event.Event.TheVariants.{Call, Ret, Sleep, Wake, Enter, Exit, Idle, Resched}
use Rattle.lp_transition.specs.declared.engine.step.Halt.{Halt}
use Rattle.lp_transition.specs.declared.engine.step.Halt.TheVariants.{NoMemory, JournalFull}
use Rattle.lp_definitions.specs.declared.refusal.Refusal.{Refusal}
use Rattle.lp_definitions.specs.declared.reply.Reply.{Reply}
use Rattle.lp_definitions.specs.declared.reply.What.{What}
use Rattle.lp_definitions.specs.Tasks.{Fate, Unused, Live, Dead, map_live, on_live}
use Rattle.lp_definitions.specs.Leg.{LegTask, State, some_live, some_task}
use Rattle.lp_machine_laws.specs.Laws.{StepsAsDefined}
use Rattle.lp_machine.specs.Machine.{affected, answer, answer_by, complete_in, put_in, refusal_of, switched_groups, switches_at, waits_in}
use Rattle.lp_definitions.specs.Run.{Run, switched}
use Rattle.lp_machine.specs.Steps.{StandsIn, IsStep}
use Rattle.lp_transition.specs.Weigh.{is_switched, may_allocate}
use Rattle.lp_definitions.proofs.Quantifiers.{some_live-is, each_live-at}
use Rattle.lp_definitions.specs.TaskEvents.{is_quiet, is_own_check}
use Rattle.lp_log.specs.inside.Quiet.{is_quiet_now}

filter_none : {A : Type 0} (p : A → Bool) → ((x : A) → p x ≡ false) → (xs : List A) → filter p xs ≡ []
filter_none p none [] = refl
filter_none p none (x ∷ xs) = ap (λ b. if b then x ∷ filter p xs else filter p xs) (none x) ∙ filter_none p none xs

and_false : (b : Bool) → (b && false) ≡ false
and_false true = refl
and_false false = refl

false_unless : (b : Bool) → (b ≡ true → ⊥) → b ≡ false
false_unless true never = absurd (never refl)
false_unless false never = refl

not_both : (a b : Bool) → b ≡ true → (a && not b) ≡ true → ⊥
not_both true true is both = cc
not_both true false is both = cc
not_both false b is both = cc

-- whether a task waits doesn't hang on where it is
same_wait : (target group : ℕ) (b : Bool) (f : Fate LegTask)
    → on_live false (λ (x : LegTask). nat_eq x.group group && not (nat_eq x.level target)) (if b then map_live (put_in User) f else f)
    ≡ on_live false (λ (x : LegTask). nat_eq x.group group && not (nat_eq x.level target)) f
same_wait target group true Unused = refl
same_wait target group true (Live x) = refl
same_wait target group true Dead = refl
same_wait target group false f = refl

module _ (model : Rules) (s : State) where
  -- where all are on the target no group waits
  none_waits : complete_in s ≡ true → (group : ℕ) → waits_in s group ≡ false
  none_waits complete group =
      false_unless (waits_in s group) (λ waits.
      let p = some_live-is s.bounds s.tasks (λ t (x : LegTask). nat_eq x.group group && not (nat_eq x.level s.target)) waits in
      let at = each_live-at s.bounds s.tasks (λ t (x : LegTask). nat_eq x.level s.target) complete p.task p.life p.positive p.within p.live in
      not_both (nat_eq p.life.group group) (nat_eq p.life.level s.target) at p.passed)

  after_exit : (t : TaskId) (group : ℕ) → waits_in (affected model s (Exit t)) group ≡ waits_in s group
  unfolding some_live
  after_exit t group = ap (some_task s.bounds.tasks) (fun_ext (λ u. same_wait s.target group (nat_eq u t.0) (s.tasks u)))

  quiet_at : (now : State) (event : Event) (group : ℕ) → waits_in now group ≡ false → switches_at model now event group ≡ false
  unfolding switches_at
  quiet_at now event group quiet = cc

  none_at : (event : Event) → is_quiet event ≡ true → (group : ℕ) → switches_at model (affected model s event) event group ≡ false
  unfolding switches_at
  none_at (Call t f) plain group = and_false (waits_in (affected model s (Call t f)) group)
  none_at (Ret t) plain group = and_false (waits_in (affected model s (Ret t)) group)
  none_at (Sleep t) plain group = and_false (waits_in (affected model s (Sleep t)) group)
  none_at (Wake t) plain group = and_false (waits_in (affected model s (Wake t)) group)
  none_at (Enter t) plain group = and_false (waits_in (affected model s (Enter t)) group)
  none_at _ plain group = cc

  none_at_own_check : (event : Event) → is_own_check event ≡ true → complete_in s ≡ true → (group : ℕ) → switches_at model (affected model s event) event group ≡ false
  none_at_own_check (Exit t) own_check complete group = quiet_at (affected model s (Exit t)) (Exit t) group (after_exit t group ∙ none_waits complete group)
  none_at_own_check (Idle t) own_check complete group = quiet_at (affected model s (Idle t)) (Idle t) group (none_waits complete group)
  none_at_own_check (Resched t) own_check complete group = quiet_at (affected model s (Resched t)) (Resched t) group (none_waits complete group)
  none_at_own_check _ own_check complete group = cc

  none_switched : (event : Event) → ((group : ℕ) → switches_at model (affected model s event) event group ≡ false) → is_switched (switched (switched_groups model (affected model s event) event)) ≡ false
  unfolding switched_groups
  none_switched event none =
      ap (λ groups. is_switched (switched groups)) (filter_none (switches_at model (affected model s event) event) none (range_with_len 0 (suc (affected model s event).bounds.tasks)))

  by : (event : Event) → is_quiet event ≡ true → (why : Option Refusal) → is_switched (answer_by model s event why).what ≡ false
  by event plain (Some why) = refl
  by (Call t f) plain None = refl
  by (Ret t) plain None = none_switched (Ret t) (none_at (Ret t) plain)
  by (Sleep t) plain None = none_switched (Sleep t) (none_at (Sleep t) plain)
  by (Wake t) plain None = none_switched (Wake t) (none_at (Wake t) plain)
  by (Enter t) plain None = none_switched (Enter t) (none_at (Enter t) plain)
  by _ plain None = cc

  by_own_check : (event : Event) → is_own_check event ≡ true → complete_in s ≡ true → (why : Option Refusal) → is_switched (answer_by model s event why).what ≡ false
  by_own_check event own_check complete (Some why) = refl
  by_own_check (Exit t) own_check complete None = none_switched (Exit t) (none_at_own_check (Exit t) own_check complete)
  by_own_check (Idle t) own_check complete None = none_switched (Idle t) (none_at_own_check (Idle t) own_check complete)
  by_own_check (Resched t) own_check complete None = none_switched (Resched t) (none_at_own_check (Resched t) own_check complete)
  by_own_check _ own_check complete None = cc

  by_either : (event : Event) → (p : Bool) → is_quiet event ≡ p → (q : Bool) → is_own_check event ≡ q → is_quiet_now s event ≡ true → is_switched (answer_by model s event (refusal_of model s event)).what ≡ false
  by_either event true plain q own_check quiet = by event plain (refusal_of model s event)
  by_either event false plain true own_check quiet = by_own_check event own_check (cc (plain, own_check, quiet)) (refusal_of model s event)
  by_either event false plain false own_check quiet = absurd (cc (plain, own_check, quiet))

  pub quiet_answer : (event : Event) → is_quiet_now s event ≡ true → is_switched (answer model s event).what ≡ false
  unfolding answer
  quiet_answer event quiet = by_either event (is_quiet event) refl (is_own_check event) refl quiet

  -- the reply to such an event, as an engine gives it for a run that stands there, names no groups
  pub quiet_reply : (run : Run) (event : Event) (given : Reply) (after : State) → StepsAsDefined model → StandsIn model run s → IsStep model s event given after
      → is_quiet_now s event ≡ true → is_switched given.what ≡ false
  quiet_reply run event given after law stands step quiet =
      let same : given ≡ answer model s event = step.replies run stands ∙ sym ((law.steps s event).replies run stands) in
      subst (λ (r : Reply). is_switched r.what ≡ false) (sym same) (quiet_answer event quiet)

  -- and it needs no memory
  pub quiet_allocates : (event : Event) → is_quiet_now s event ≡ true → may_allocate event (answer model s event).what ≡ false
  quiet_allocates (Call t f) quiet = refl
  quiet_allocates (Ret t) quiet = refl
  quiet_allocates (Sleep t) quiet = refl
  quiet_allocates (Wake t) quiet = refl
  quiet_allocates (Enter t) quiet = refl
  quiet_allocates (Exit t) quiet = quiet_answer (Exit t) quiet
  quiet_allocates (Idle t) quiet = quiet_answer (Idle t) quiet
  quiet_allocates (Resched t) quiet = quiet_answer (Resched t) quiet
  quiet_allocates _ quiet = cc

-- so nothing keeps an engine from taking it
pub quiet_taken : (event : Event) (what : What) (number : ℕ) (halt : Halt) → number < 1000000 → may_allocate event what ≡ false
    → (halt ≡ JournalFull → 1000000 ≤ number) → (halt ≡ NoMemory → may_allocate event what ≡ true) → ⊥
quiet_taken event what number NoMemory left none full memory = cc (memory refl, none)
quiet_taken event what number JournalFull left none full memory = omega (arith, left, full refl)
