-- The first leg of a trace, and the rows of the models.
use Rattle.std.proofs.Common.{◌≡◌, ◌<◌, ◌≤◌, ℕ, List, [], ◌∷◌, map, All, Option, Some, None, option_to_list, refl, sym, ap, ap₂, ◌∙◌, subst, arith}
use Rattle.std.specs.Prelude.{slice_get}
use Rattle.std.specs.List.{AllByRecursion}
use Rattle.std.specs.Option.{option_map}
use Rattle.std.proofs.lemmas.List.Elements.{All-from_recursion, All-head}
use Rattle.lp_stack.specs.declared.number.TaskId.{TaskId}
use Rattle.lp_stack.specs.declared.view.Class.{Class}
use Rattle.lp_model.specs.Rules.{Rules, IsLawful}
use Rattle.lp_models.specs.declared.name.ModelName.{ModelName}
use Rattle.lp_models.specs.declared.name.ModelName.TheVariants.{Hybrid}
use Rattle.lp_definitions.specs.declared.reply.Reply.{Reply}
use Rattle.lp_definitions.specs.Leg.{Leg}
use Rattle.lp_definitions.specs.Run.{AreInRange, first_leg, replies}
use Rattle.lp_definitions.specs.Ends.{LegEnd, end_of}
use Rattle.lp_definitions.specs.Certificates.{opened_legs}
use Rattle.lp_text.specs.Traces.{TraceValue, IsTask, IsTrace}
use Rattle.lp_replay.specs.Outcome.{whole_run, run_of}
use Rattle.lp_laws.proofs.LegByLeg.{IsLeg, legs_of}
use Rattle.lp_compare.specs.declared.comparison.Comparison.{Comparison}
use Rattle.lp_compare.specs.declared.comparison.Row.{Row}
use Rattle.lp_compare.specs.declared.first_end.FirstEnd.{FirstEnd}
use Rattle.lp_models.specs.Models.{models, rules_named}
use Rattle.lp_compare.specs.Comparison.{comparison, first_end, row_of}
use Rattle.lp_compare.specs.inside.FirstEnds.{FewBirths, kept_end, row_with}
use Rattle.lp_compare.proofs.Births.{few_births}

boots_in_range : (boots : List (TaskId × Class)) → AllByRecursion (λ (boot : TaskId × Class). IsTask boot.0) boots → AllByRecursion (λ (boot : TaskId × Class). (0 < boot.0.0) × (boot.0.0 ≤ 65535)) boots
boots_in_range [] tasks = tt
boots_in_range (boot ∷ boots) tasks = ((omega (arith, tasks.0.0), omega (arith, tasks.0.1)), boots_in_range boots tasks.1)

-- the boot tasks of a trace have numbers in range
pub in_range : (trace : TraceValue) → IsTrace trace → AreInRange (run_of trace).bounds (run_of trace).boots
in_range trace is =
    All-from_recursion (λ (boot : TaskId × Class). (0 < boot.0.0) × (boot.0.0 ≤ 65535)) trace.boots (boots_in_range trace.boots is.boots)

module _ (model : Rules) (lawful : IsLawful model) where
  few_at : (answered : List Reply) (legs : List Leg) → All (IsLeg model lawful answered) legs → (end : LegEnd) → slice_get (map (end_of model) legs) 0 ≡ Some end → FewBirths end
  few_at answered [] all end e = absurd (cc)
  few_at answered (leg ∷ legs) all end e =
      let is = All-head (IsLeg model lawful answered) leg legs all in
      let same : end_of model leg ≡ end = cc in
      subst FewBirths same (few_births model leg (omega (arith, is.few)))

  -- the births of a first leg can be counted
  pub few_in_first : (trace : TraceValue) → IsTrace trace → (ends : List LegEnd) (end : LegEnd) → ends ≡ map (end_of model) (opened_legs model (first_leg model (run_of trace)) trace.events) → slice_get ends 0 ≡ Some end → FewBirths end
  few_in_first trace is ends end e found =
      few_at (replies model (first_leg model (run_of trace)) trace.events) (opened_legs model (first_leg model (run_of trace)) trace.events) (legs_of model lawful (whole_run trace) (in_range trace is) is.events_few) end
      (ap (λ (es : List LegEnd). slice_get es 0) (sym e) ∙ found)

-- ---- Rows

row_kept : (model : ModelName) (o : Option LegEnd) → row_with model (option_map kept_end o) ≡ row_of model o
row_kept model None = refl
row_kept model (Some end) = refl

opened_kept : (o : Option LegEnd) → option_map (λ (end : FirstEnd). end.opened) (option_map kept_end o) ≡ option_map (λ (end : LegEnd). end.opened) o
opened_kept None = refl
opened_kept (Some end) = refl

pub row_is : (model : ModelName) (rules : Rules) (trace : TraceValue) (row : Row) (kept : Option FirstEnd) → row ≡ row_with model kept → kept ≡ option_map kept_end (first_end rules trace) → row ≡ row_of model (first_end rules trace)
row_is model rules trace row kept is e = is ∙ (ap (row_with model) e ∙ row_kept model (first_end rules trace))

abbrev with_parts : Option ℕ → List Row → Comparison
with_parts leg rows = record { leg = leg; rows = rows }

-- an answer put together from the end under `hybrid` and the rows of all models
pub compared : (trace : TraceValue) (leg : Option ℕ) (rows : List Row) (all : List ModelName) (hybrid : Option FirstEnd)
    → leg ≡ option_map (λ (end : FirstEnd). end.opened) hybrid → hybrid ≡ option_map kept_end (first_end (rules_named Hybrid) trace)
    → all ≡ models → rows ≡ map (λ model. row_of model (first_end (rules_named model) trace)) all
    → with_parts leg rows ≡ comparison trace
unfolding comparison
compared trace leg rows all hybrid leg_is hybrid_is all_is rows_are =
    ap₂ with_parts
    (leg_is ∙ (ap (option_map (λ (end : FirstEnd). end.opened)) hybrid_is ∙ opened_kept (first_end (rules_named Hybrid) trace)))
    (rows_are ∙ ap (map (λ (model : ModelName). row_of model (first_end (rules_named model) trace))) all_is)

-- ---- A list of at most one

pub only_one : (end : Option LegEnd) (first : LegEnd) (rest : List LegEnd) → option_to_list end ≡ first ∷ rest → end ≡ Some first
only_one None first rest is = absurd (cc)
only_one (Some end) first rest is = cc
