-- Every sound state is where a leg stands that opens with it. So a leg may be cut anywhere.
use Rattle.std.proofs.Common.{◌≡◌, ℕ, ◌+◌, Bool, true, false, not, ◌&&◌, ◌||◌, List, length, IsTrue, nat_eq, refl, sym, ap, ap₂, ◌∙◌, subst, ⊎_elim, arith}
use Rattle.std.proofs.lemmas.Bool.{cases_Bool, and_parts, eqb-true, not-true}
use mathlib.Core.Path.{fun_ext}
use Rattle.lp_model.specs.Rules.{Rules, IsLawful}
use Rattle.lp_definitions.specs.declared.event.Event.{Event}
use Rattle.lp_definitions.specs.Tasks.{Fate, Unused, Live, Dead, on_live}
use Rattle.lp_definitions.specs.Leg.{LegTask, Leg, each_task, each_live, State}
use Rattle.lp_definitions.specs.Schedule.{first_check}
use Rattle.lp_definitions.specs.Sound.{IsSound}
use Rattle.lp_definitions.specs.Run.{shown, next_leg, replies}
use Rattle.lp_machine.specs.Machine.{waits_in, next, answers, state_of}
use Rattle.lp_machine.specs.Steps.{opening_at}
use Rattle.lp_machine_laws.specs.Laws.{StatesAreSound}
use Rattle.lp_definitions.proofs.Quantifiers.{some_live-is}
use Rattle.lp_laws.proofs.First.{first_check_is}
use Rattle.lp_laws.proofs.SoundAfter.{sound_after}
use Rattle.lp_laws.proofs.WholeRun.{next_sound}
use Rattle.lp_machine_laws.proofs.Steps.{open_shown, does}
use Rattle.lp_machine_laws.proofs.Runs.{all_answers}

-- at a group that waits each member is off the target, so only those that are have to be admitted
module _ (s : State) (sound : IsSound s) (group : ℕ) (it_waits : IsTrue (waits_in s group)) (admits : ℕ → LegTask → Bool) where
  at_fate : (t : ℕ) (fate : Fate LegTask) → s.tasks t ≡ fate → on_live true (λ x. not (nat_eq x.group group) || admits t x) fate ≡ on_live true (λ x. not (nat_eq x.group group) || (nat_eq x.level s.target || admits t x)) fate
  at_fate t Unused e = refl
  at_fate t (Live x) e =
      ⊎_elim
      (λ (h : nat_eq x.group group ≡ true).
      let w = some_live-is s.bounds s.tasks (λ u y. nat_eq y.group group && not (nat_eq y.level s.target)) it_waits in
      let both = and_parts (nat_eq w.life.group group) (not (nat_eq w.life.level s.target)) w.passed in
      let one : x.level ≡ w.life.level = sound.one_side t w.task x w.life e w.live (eqb-true _ _ h ∙ sym (eqb-true _ _ both.0)) in
      let off : nat_eq x.level s.target ≡ false = ap (λ l. nat_eq l s.target) one ∙ not-true (nat_eq w.life.level s.target) both.1 in
      ap (λ b. not (nat_eq x.group group) || (b || admits t x)) (sym off))
      (λ (h : nat_eq x.group group ≡ false). ap (λ b. not b || admits t x) h ∙ sym (ap (λ b. not b || (nat_eq x.level s.target || admits t x)) h))
      (cases_Bool (nat_eq x.group group))
  at_fate t Dead e = refl

  pub waiting_suffice : each_live s.bounds s.tasks (λ t x. not (nat_eq x.group group) || admits t x) ≡ each_live s.bounds s.tasks (λ t x. not (nat_eq x.group group) || (nat_eq x.level s.target || admits t x))
  unfolding each_live
  waiting_suffice = ap (each_task s.bounds.tasks) (fun_ext (λ t. at_fate t (s.tasks t) refl))

module _ (model : Rules) where
  pub opens_there : (s : State) → state_of model (opening_at s) ≡ s
  opens_there s = ap₂ (λ n tasks. record { number = n; bounds = s.bounds; from = s.from; aim = s.aim; tasks = tasks }) (omega arith) (open_shown model s)

  module _ (lawful : IsLawful model) where
    -- where a run stands is sound again
    pub state_sound : (leg : Leg) → IsSound leg.opening → IsSound (state_of model leg)
    unfolding shown
    state_sound leg sound =
        sound_after model leg lawful sound (first_check model leg) (first_check_is model leg).legal (length leg.events) (leg.number + length leg.events) leg.from leg.aim (omega arith)

    pub next_keeps_sound : (s : State) (event : Event) → IsSound s → IsSound (next model s event)
    next_keeps_sound s event sound =
        let leg = opening_at s in
        let same = ap (λ st. next model st event) (sym (opens_there s)) ∙ (does model leg event lawful sound).next_state in
        subst IsSound (sym same) (state_sound (next_leg model leg event) (next_sound model lawful leg event sound))

    -- the replies from here on are those of a leg that opens here
    pub cut : (s : State) → IsSound s → (events : List Event) → answers model s events ≡ replies model (opening_at s) events
    cut s sound events = ap (λ st. answers model st events) (sym (opens_there s)) ∙ all_answers model lawful (opening_at s) sound events

    -- so a leg may be cut anywhere
    pub cut_leg : (leg : Leg) → IsSound leg.opening → (events : List Event) → replies model (opening_at (state_of model leg)) events ≡ replies model leg events
    cut_leg leg sound events = sym (cut (state_of model leg) (state_sound leg sound) events) ∙ all_answers model lawful leg sound events

    -- where a run stands is sound, and each step keeps that
    pub states_are_sound : StatesAreSound model
    states_are_sound =
        record {
          there = λ leg sound. state_sound leg sound;
          stays = λ s event sound. next_keeps_sound s event sound;
          cut = λ leg sound events. cut_leg leg sound events;
        }
