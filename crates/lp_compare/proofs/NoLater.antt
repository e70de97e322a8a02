-- A comparison's rows, and which of them never complete later than others.
use Rattle.std.proofs.Common.{◌≡◌, ◌<◌, ℕ, zero, suc, List, [], ◌∷◌, map, length, Contains, Option, Some, None, refl, sym, ap, ◌∙◌, subst, arith}
use Rattle.std.specs.Prelude.{slice_get, slice_index_or}
use Rattle.std.specs.Option.{option_map}
use Rattle.std.proofs.lemmas.Option.{slice_get-map}
use Rattle.lp_model.specs.Rules.{Rules, IsLawful}
use Rattle.lp_models.specs.declared.name.ModelName.{ModelName}
use Rattle.lp_models.specs.declared.name.ModelName.TheVariants.{Hybrid, LeaveKernel, Immediate}
use Rattle.lp_models.specs.inside.ModelLaws.{hybrid_lawful, leave_kernel_lawful, immediate_lawful}
use Rattle.lp_definitions.specs.Leg.{Leg}
use Rattle.lp_definitions.specs.Order.{IsAtLeastAsPermissive}
use Rattle.lp_definitions.specs.Run.{first_leg}
use Rattle.lp_definitions.specs.Ends.{LegEnd, end_of}
use Rattle.lp_definitions.specs.Certificates.{opened_legs}
use Rattle.lp_text.specs.Traces.{TraceValue, IsTrace}
use Rattle.lp_replay.specs.Outcome.{run_of}
use Rattle.lp_compare.specs.declared.comparison.Comparison.{Comparison}
use Rattle.lp_compare.specs.declared.comparison.Row.{Row}
use Rattle.lp_models.specs.Models.{models, rules_named}
use Rattle.lp_compare.specs.Comparison.{comparison, first_end, row_of}
use Rattle.lp_compare.specs.Permissive.{CompletesNoLater}
use Rattle.lp_compare.proofs.FirstLegs.{in_range}
use Rattle.lp_compare.proofs.Order.{hybrid_over_leave_kernel, immediate_over_hybrid}
use Rattle.lp_compare.proofs.Permissive.{completes_earlier, done}

-- what stands in a list that a function made
made_at : {A B : Type 0} (f : A → B) (xs : List A) (y : B) (k : ℕ) → k < length (map f xs) → slice_index_or (map f xs) k y ≡ y → (x : A) × (f x ≡ y)
made_at f [] y k below e = absurd (omega arith)
made_at f (x ∷ xs) y zero below e = (x, e)
made_at f (x ∷ xs) y (suc k) below e = made_at f xs y k (omega arith) e

row_model : (model : ModelName) (o : Option LegEnd) → (row_of model o).model ≡ model
row_model model None = refl
row_model model (Some end) = refl

abbrev row_under : TraceValue → ModelName → Row
row_under trace model = row_of model (first_end (rules_named model) trace)

-- a model has one row
row_at : (trace : TraceValue) (model : ModelName) (row : Row) → Contains (comparison trace).rows row → row.model ≡ model → row ≡ row_under trace model
unfolding comparison
row_at trace model row has is =
    let found = made_at (row_under trace) models row has.0 has.1 has.2 in
    let named : found.0 ≡ model = sym (row_model found.0 (first_end (rules_named found.0) trace)) ∙ (ap (λ (r : Row). r.model) found.1 ∙ is) in
    sym found.1 ∙ ap (row_under trace) named

complete_by : (model : ModelName) (rules : Rules) (o : Option Leg) → (row_of model (option_map (end_of rules) o)).complete ≡ done rules o
complete_by model rules None = refl
complete_by model rules (Some leg) = refl

-- when the first leg of a trace completed
completed_at : (trace : TraceValue) (model : ModelName) → (row_under trace model).complete ≡ done (rules_named model) (slice_get (opened_legs (rules_named model) (first_leg (rules_named model) (run_of trace)) trace.events) 0)
completed_at trace model =
    let rules = rules_named model in
    let legs = opened_legs rules (first_leg rules (run_of trace)) trace.events in
    ap (λ o. (row_of model o).complete) (slice_get-map (end_of rules) legs 0) ∙ complete_by model rules (slice_get legs 0)

module _ (a b : ModelName) (lawful_a : IsLawful (rules_named a)) (lawful_b : IsLawful (rules_named b)) (more : IsAtLeastAsPermissive (rules_named a) (rules_named b)) where
  no_later : (trace : TraceValue) → IsTrace trace → CompletesNoLater a b (comparison trace)
  no_later trace is row other has_row is_a has_other is_b event e =
      let at_b = ap (λ (r : Row). r.complete) (row_at trace b other has_other is_b) ∙ completed_at trace b in
      let at_a = ap (λ (r : Row). r.complete) (row_at trace a row has_row is_a) ∙ completed_at trace a in
      let first = completes_earlier (rules_named a) (rules_named b) lawful_a lawful_b more (run_of trace) (in_range trace is) trace.events event (sym at_b ∙ e) in
      (first.0, first.1, at_a ∙ first.2)

module _ (trace : TraceValue) (is : IsTrace trace) (found : Comparison) (same : found ≡ comparison trace) where
  pub hybrid_no_later : CompletesNoLater Hybrid LeaveKernel found
  hybrid_no_later = subst (CompletesNoLater Hybrid LeaveKernel) (sym same) (no_later Hybrid LeaveKernel hybrid_lawful leave_kernel_lawful hybrid_over_leave_kernel trace is)

  pub immediate_no_later : CompletesNoLater Immediate Hybrid found
  immediate_no_later = subst (CompletesNoLater Immediate Hybrid) (sym same) (no_later Immediate Hybrid immediate_lawful hybrid_lawful immediate_over_hybrid trace is)
