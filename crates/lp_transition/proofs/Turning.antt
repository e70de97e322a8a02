-- The engine at events that begin a transition or turn it round.
use Rattle.std.proofs.Common.{◌≡◌, ◌<◌, ◌≤◌, ◌+◌, ℕ, Bool, true, false, not, length, Option, Some, None, IsTrue, nat_eq, refl, sym, ap, ap₂, ◌∙◌, subst, ◌↔◌, add-one, arith}
use Rattle.std.proofs.lemmas.Bool.{cond-true, not-false}
use Rattle.std.specs.Bool.{one_answer}
use Rattle.lp_numbers.specs.Numbers.{Numbers, has}
use Rattle.lp_model.specs.Rules.{Rules, IsLawful}
use Rattle.lp_definitions.specs.declared.event.Event.{Event}
use Rattle.lp_definitions.specs.declared.reply.What.TheVariants.{Done}
use Rattle.lp_definitions.specs.declared.reply.Reply.{Reply}
use Rattle.lp_definitions.specs.Events.{is_control}
use Rattle.lp_definitions.specs.Leg.{LegTask, State, each_live}
use Rattle.lp_definitions.specs.Run.{new_target}
use Rattle.lp_machine.specs.Machine.{refusal_of, next, answer}
use Rattle.lp_machine.specs.Table.{Engine, slot, leg_tasks, state_in, bounds_of}
use Rattle.lp_tasks.specs.inside.Table.{is_off}
use Rattle.lp_transition.specs.inside.Invariant.{IsBetween, IsEngine}
use Rattle.lp_machine.proofs.EngineLemmas.{next-turned, answer-accepted}
use Rattle.lp_definitions.proofs.Quantifiers.{each_live-at, each_live-from}
use Rattle.lp_tasks.proofs.TableLemmas.{slot-zero, slot_from_live, live_from_slot}
use Rattle.lp_tasks.proofs.MemberLemmas.{slot-positive, slot-below}
use Rattle.lp_transition.proofs.Effects.{HasTaken, sound_next}

-- the engine turned to another level
abbrev pub turned_to : ℕ → Engine → Engine
turned_to level e = record { number = e.number + 1; from = e.target; target = level; patches = e.patches; table = e.table; blames = e.blames; last_scan = e.last_scan }

-- each live task is on a level
module _ (e : Engine) (waiting : Numbers) (kept : IsEngine e waiting) (level : ℕ) where
  on_level-is : ((t : ℕ) → is_off level (slot e.table t) ≡ false) → IsTrue (each_live (bounds_of e.patches) (leg_tasks e.table) (λ t x. nat_eq x.level level))
  on_level-is all =
      each_live-from (bounds_of e.patches) (leg_tasks e.table) (λ t x. nat_eq x.level level)
      (λ t x positive within live. not-false (nat_eq x.level level) (sym (ap (is_off level) (slot_from_live e.table t x live)) ∙ all t))

  on_level-from : IsTrue (each_live (bounds_of e.patches) (leg_tasks e.table) (λ t x. nat_eq x.level level)) → (t : ℕ) → is_off level (slot e.table t) ≡ false
  on_level-from all t = by (slot e.table t) refl
    where
      by : (o : Option LegTask) → slot e.table t ≡ o → is_off level o ≡ false
      by None there = refl
      by (Some x) there =
          let positive = slot-positive e.table t x (slot-zero e kept.sound) there in
          let below = slot-below e.table t x kept.wide there in
          ap not (each_live-at (bounds_of e.patches) (leg_tasks e.table) (λ u y. nat_eq y.level level) all t x positive (omega arith) (live_from_slot e.table t x there))

  pub on_level : ((t : ℕ) → is_off level (slot e.table t) ≡ false) ↔ IsTrue (each_live (bounds_of e.patches) (leg_tasks e.table) (λ t x. nat_eq x.level level))
  on_level = (on_level-is, on_level-from)

module _ (model : Rules) where
  -- the answer to an accepted control event
  pub answer-turned : (e old : Engine) (waiting : Numbers) (event : Event) (level : ℕ) (all : Bool) → e ≡ old → IsEngine e waiting → refusal_of model (state_in old) event ≡ None → is_control event ≡ true → level ≡ new_target (state_in old) event
      → IsTrue all ↔ ((t : ℕ) → is_off level (slot e.table t) ≡ false) → record { what = Done; completed = all } ≡ answer model (state_in old) event
  answer-turned e old waiting event level all was kept accepted control switches tells =
      let at : level ≡ new_target (state_in e) event = subst (λ o. level ≡ new_target (state_in o) event) (sym was) switches in
      let on_target = on_level e waiting kept level in
      let same : all ≡ each_live (bounds_of e.patches) (leg_tasks e.table) (λ t x. nat_eq x.level level) = one_answer all (each_live (bounds_of e.patches) (leg_tasks e.table) (λ t x. nat_eq x.level level)) tells (on_target.1, on_target.0) in
      subst (λ o. record { what = Done; completed = all } ≡ answer model (state_in o) event) was
      (sym (answer-accepted model (state_in e) event (subst (λ o. refusal_of model (state_in o) event ≡ None) (sym was) accepted) ∙ cond-true _ _ _ control
      ∙ ap {A = ℕ} {B = Reply} (λ n. record { what = Done; completed = each_live (bounds_of e.patches) (leg_tasks e.table) (λ t x. nat_eq x.level n) }) (sym at) ∙ ap {A = Bool} {B = Reply} (λ b. record { what = Done; completed = b }) (sym same)))

  -- and the engine after it
  pub takes_turn : IsLawful model → (e old : Engine) (waiting now : Numbers) (event : Event) (level : ℕ) → e ≡ old → IsEngine e waiting → length now ≡ 65536 → ((t : ℕ) → has now t ≡ is_off level (slot e.table t)) → ((t : ℕ) → IsBetween e.target level (slot e.table t)) → old.number < 1000000 → refusal_of model (state_in old) event ≡ None → is_control event ≡ true → level ≡ new_target (state_in old) event → level ≤ length e.patches
      → HasTaken model old event (turned_to level e) now
  takes_turn lawful e old waiting now event level was kept wide_now collected between room accepted control switches fits =
      let at : level ≡ new_target (state_in e) event = subst (λ o. level ≡ new_target (state_in o) event) (sym was) switches in
      let there : state_in (turned_to level e) ≡ next model (state_in e) event =
      ap₂ {A = ℕ} {B = ℕ} {C = State} (λ n l. record { number = n; bounds = bounds_of e.patches; from = e.target; aim = record { patches = e.patches; target = l }; tasks = leg_tasks e.table }) (add-one e.number) at
      ∙ sym (next-turned model (state_in e) event (subst (λ o. refusal_of model (state_in o) event ≡ None) (sym was) accepted) control) in
      let below : e.number < 1000000 = subst (λ o. o.number < 1000000) (sym was) room in
      subst (λ o. HasTaken model o event (turned_to level e) now) was (record {
        kept = record {
          sound = sound_next model lawful e (turned_to level e) event kept.sound there;
          wide = kept.wide;
          waiting_wide = wide_now;
          waits = collected;
          between = between;
          from_fits = kept.target_fits;
          target_fits = fits;
          number_fits = omega arith;
        };
        state = there;
      })
