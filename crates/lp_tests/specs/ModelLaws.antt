-- The laws of a transition at one model, and at two.
use Rattle.std.specs.Prelude.{ℕ, ◌≤◌}
use Rattle.lp_model.specs.Rules.{Rules}
use Rattle.lp_laws.specs.Laws.{HasOneFirstCheck, KeepsThePast, SwitchesNoneLater, CompletesNoneLater, WaitsForAReason, TrustsChains, OpensSoundly, KeepsOneVersion, MixesNoStay}
use Rattle.lp_machine_laws.specs.Laws.{StepsAsDefined, StatesAreSound}
use Rattle.lp_transition.specs.Laws.{StatesTell}
use Rattle.lp_definitions.specs.Leg.{Leg}
use Rattle.lp_definitions.specs.Schedule.{Schedule, CompletesAt, IsFirstCheck}
use Rattle.lp_definitions.specs.Sound.{IsSound}

-- all laws that are about one model
pub record KeepsAllLaws (model : Rules) : Type 0 where
  pub one_first_check : HasOneFirstCheck model
  pub the_past_stays : KeepsThePast model
  pub no_earlier_switch : SwitchesNoneLater model
  pub no_earlier_completion : CompletesNoneLater model
  pub no_wait_without_a_reason : WaitsForAReason model
  pub chains_are_sound : TrustsChains model
  pub legs_open_soundly : OpensSoundly model
  pub one_version : KeepsOneVersion model
  pub no_stay_is_mixed : MixesNoStay model
  pub the_machine_steps_as_defined : StepsAsDefined model
  pub a_leg_may_be_cut : StatesAreSound model
  pub states_tell : StatesTell model

-- under the first model each leg is complete at the same event as under the second, or before
pub record IsNeverLaterThan (a b : Rules) : Type 0 where
  pub completes :
      (leg : Leg) → IsSound leg.opening →
      (s r : Schedule) → IsFirstCheck a leg s → IsFirstCheck b leg r →
      (k : ℕ) → CompletesAt b leg r k → (j : ℕ) × (j ≤ k) × CompletesAt a leg s j
