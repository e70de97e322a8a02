-- The headline holds of the run of a trace that is answered as the definitions say.
use Rattle.std.proofs.Common.{◌<◌, ◌≤◌, List, [], ◌∷◌, refl, arith}
use Rattle.std.specs.List.{AllByRecursion}
use Rattle.std.proofs.lemmas.List.Elements.{All-from_recursion}
use Rattle.lp_stack.specs.declared.number.TaskId.{TaskId}
use Rattle.lp_stack.specs.declared.view.Class.{Class}
use Rattle.lp_model.specs.Rules.{Rules, IsLawful}
use Rattle.lp_definitions.specs.Outcome.{Outcome, IsOutcome}
use Rattle.lp_definitions.specs.Headline.{Headline}
use Rattle.lp_laws.proofs.Headline.{headline}
use Rattle.lp_replay.specs.Outcome.{outcome, whole_run}
use Rattle.lp_text.specs.Traces.{TraceValue, IsTask, IsTrace}

module _ (model : Rules) (lawful : IsLawful model) where
  boots_in_range : (boots : List (TaskId × Class)) → AllByRecursion (λ (boot : TaskId × Class). IsTask boot.0) boots → AllByRecursion (λ (boot : TaskId × Class). (0 < boot.0.0) × (boot.0.0 ≤ 65535)) boots
  boots_in_range [] tasks = tt
  boots_in_range (boot ∷ boots) tasks = ((omega (arith, tasks.0.0), omega (arith, tasks.0.1)), boots_in_range boots tasks.1)

  pub headline_of_trace : (trace : TraceValue) → IsTrace trace → (found : Outcome) → IsOutcome model (whole_run trace) found → Headline model (whole_run trace) found
  headline_of_trace trace is found answered =
      headline model lawful (whole_run trace) (All-from_recursion (λ (boot : TaskId × Class). (0 < boot.0.0) × (boot.0.0 ≤ 65535)) trace.boots (boots_in_range trace.boots is.boots)) is.events_few found answered

  pub outcome_is : (trace : TraceValue) → IsOutcome model (whole_run trace) (outcome model trace)
  unfolding outcome
  outcome_is trace = record { replied = refl; legs = refl; stays = refl; mixed = refl }
