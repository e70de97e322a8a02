-- The machine over a whole run.
use Rattle.std.proofs.Common.{◌≡◌, List, [], ◌∷◌, ◌++◌, refl, sym, ap, ap₂, ◌∙◌, subst}
use Rattle.lp_model.specs.Rules.{Rules, IsLawful}
use Rattle.lp_definitions.specs.declared.event.Event.{Event}
use Rattle.lp_definitions.specs.declared.reply.Reply.{Reply}
use Rattle.lp_definitions.specs.Leg.{Leg, State}
use Rattle.lp_definitions.specs.Sound.{IsSound}
use Rattle.lp_definitions.specs.Run.{Run, AreInRange, plus, first_leg, leg_of, next_leg, replies, leg_after}
use Rattle.lp_machine.specs.Machine.{answer, next, answers, state_of}
use Rattle.lp_machine.specs.Steps.{StandsIn, IsReply, IsStep}
use Rattle.lp_machine_laws.specs.Laws.{StepsAsDefined}
use Rattle.lp_laws.proofs.WholeRun.{next_sound, run_sound, start_sound}
use Rattle.lp_machine_laws.proofs.Steps.{open_shown, does}

module _ (model : Rules) where
  pub leg_after-plus : (leg : Leg) (events : List Event) (event : Event) → leg_after model leg (events ++ event ∷ []) ≡ next_leg model (leg_after model leg events) event
  unfolding leg_after
  leg_after-plus leg [] event = refl
  leg_after-plus leg (first ∷ events) event = leg_after-plus (next_leg model leg first) events event

  pub started : (run : Run) → state_of model (first_leg model run) ≡ (first_leg model run).opening
  started run =
      let leg = first_leg model run in
      ap (λ tasks. record { number = 0; bounds = leg.bounds; from = leg.from; aim = leg.aim; tasks = tasks }) (open_shown model leg.opening)

  module _ (lawful : IsLawful model) where
    pub all_answers : (leg : Leg) → IsSound leg.opening → (events : List Event) → answers model (state_of model leg) events ≡ replies model leg events
    unfolding answers replies
    all_answers leg sound [] = refl
    all_answers leg sound (event ∷ events) =
        let one = does model leg event lawful sound in
        ap₂ (λ r rest. r ∷ rest) one.answers (ap (λ s. answers model s events) one.next_state ∙ all_answers (next_leg model leg event) (next_sound model lawful leg event sound) events)

    sound_of : (run : Run) → AreInRange run.bounds run.boots → IsSound (leg_of model run).opening
    sound_of run ok = run_sound model lawful (first_leg model run) run.events (start_sound model lawful run.bounds run.patches run.boots ok)

    pub steps : (before : State) (event : Event) → IsStep model before event (answer model before event) (next model before event)
    steps before event =
        record {
          replies = λ run stands. ap (λ s. answer model s event) stands.there ∙ (does model (leg_of model run) event lawful (sound_of run stands.in_range)).answers;
          reaches = λ run stands. record {
            in_range = stands.in_range;
            there = ap (λ s. next model s event) stands.there ∙ ((does model (leg_of model run) event lawful (sound_of run stands.in_range)).next_state ∙ ap (state_of model) (sym (leg_after-plus (first_leg model run) run.events event)));
          };
        }

    -- the machine's answer is the definitions' reply
    pub is_reply : (before : State) (event : Event) (given : Reply) → given ≡ answer model before event → IsReply model before event given
    is_reply before event given answered run stands = answered ∙ (steps before event).replies run stands

    -- what code has to show of its step
    pub is_step : (before after : State) (event : Event) (given : Reply) → given ≡ answer model before event → after ≡ next model before event → IsStep model before event given after
    is_step before after event given answered went =
        record {
          replies = λ run stands. answered ∙ (steps before event).replies run stands;
          reaches = λ run stands. subst (StandsIn model (plus run event)) (sym went) ((steps before event).reaches run stands);
        }

    pub steps_as_defined : StepsAsDefined model
    unfolding leg_after
    steps_as_defined =
        record {
          starts = λ run none ok. record { in_range = ok; there = sym (started run) ∙ ap (λ events. state_of model (leg_after model (first_leg model run) events)) (sym none) };
          steps = steps;
          all = λ run ok. ap (λ s. answers model s run.events) (sym (started run)) ∙ all_answers (first_leg model run) (start_sound model lawful run.bounds run.patches run.boots ok) run.events;
        }
