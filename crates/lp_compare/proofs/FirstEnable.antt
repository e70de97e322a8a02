-- A trace's first leg is opened by its first `enable`, under every model.
use Rattle.std.proofs.Common.{◌≡◌, ◌+◌, ◌≤◌, ℕ, suc, Bool, true, false, List, [], ◌∷◌, ◌++◌, length, length-append, map, Option, Some, None, IsTrue, nat_eq, refl, sym, ap, ap₂, ◌∙◌, subst, ⊎_elim, arith}
use Rattle.std.specs.Prelude.{slice_get}
use Rattle.std.specs.List.{position_from}
use Rattle.std.specs.Option.{option_map}
use Rattle.std.proofs.lemmas.Bool.{cases_Bool, cond-true, cond-false, eqb-true, false_from_ne_true}
use Rattle.std.proofs.lemmas.List.{length-map}
use Rattle.std.proofs.lemmas.Option.{slice_get-map}
use Rattle.lp_stack.specs.declared.number.TaskId.{TaskId}
use Rattle.lp_stack.specs.declared.view.Class.{Class}
use Rattle.lp_model.specs.Rules.{Rules, IsLawful}
use Rattle.lp_models.specs.declared.name.ModelName.{ModelName}
use Rattle.lp_models.specs.declared.name.ModelName.TheVariants.{Hybrid}
use Rattle.lp_models.specs.Models.{rules_named}
use Rattle.lp_models.specs.inside.ModelLaws.{hybrid_lawful, lawful_named}
use Rattle.lp_definitions.specs.declared.event.Event.{Event}
use Rattle.lp_definitions.specs.declared.event.Event.TheVariants.{Enable, Disable, Reverse}
use Rattle.lp_definitions.specs.Sound.{IsSound}
use Rattle.lp_definitions.specs.Leg.{Leg}
use Rattle.lp_definitions.specs.Run.{and_then, first_leg, is_complete_now, opened, opens, refused_by}
use Rattle.lp_definitions.specs.Ends.{LegEnd, end_of}
use Rattle.lp_definitions.specs.Certificates.{opened_legs}
use Rattle.lp_laws.proofs.WholeRun.{start_sound}
use Rattle.lp_text.specs.Traces.{TraceValue, IsTrace}
use Rattle.lp_replay.specs.Outcome.{patch_of, run_of}
use Rattle.lp_replay.specs.Legs.{to_end}
use Rattle.lp_compare.specs.declared.comparison.Comparison.{Comparison}
use Rattle.lp_compare.specs.Comparison.{comparison, first_enable, is_enable, opening}
use Rattle.lp_compare.proofs.FirstLegs.{in_range}
use Rattle.lp_compare.proofs.Permissive.{AtRest, boot_level, complete_now, end_number, first_is, first_opened}

abbrev number_of : Option Leg → Option ℕ
number_of = option_map (λ leg. leg.number)

opened_of : (model : Rules) (o : Option Leg) → option_map (λ (end : LegEnd). end.opened) (option_map (end_of model) o) ≡ number_of o
opened_of model None = refl
opened_of model (Some leg) = refl

differs : (m n : ℕ) → m ≡ 0 → 1 ≤ n → nat_eq m n ≡ false
differs m n zero some = false_from_ne_true (nat_eq m n) (λ e. let same = eqb-true m n e in absurd (omega (arith, same, zero, some)))

module _ (model : Rules) (lawful : IsLawful model) where
  -- before any leg only `enable` is accepted of the control events
  record IsBefore (leg : Leg) : Type 0 where
    number : leg.number ≡ 0
    target : leg.target ≡ 0
    patches : 1 ≤ length leg.patches
    sound : IsSound leg.opening
    rest : AtRest leg.opening

  opens_by : (leg : Leg) (event : Event) → IsBefore leg → is_complete_now model leg ≡ true → nat_eq leg.target 0 ≡ true → nat_eq leg.target (length leg.patches) ≡ false → opens model leg event ≡ is_enable event
  unfolding refused_by
  opens_by leg Enable is complete bottom top = cc (complete, top)
  opens_by leg Disable is complete bottom top = cc (complete, bottom)
  opens_by leg Reverse is complete bottom top = cc (complete)
  opens_by leg _ is complete bottom top = refl

  numbered : (leg : Leg) (events : List Event) → IsBefore leg → number_of (first_opened model leg events) ≡ position_from is_enable (suc (length leg.events)) events
  numbered leg [] is = refl
  numbered leg (event ∷ events) is =
      ⊎_elim
      (λ (e : is_enable event ≡ true).
      let one : leg.number + suc (length leg.events) ≡ suc (length leg.events) = omega (arith, is.number) in
      ap number_of (cond-true (opens model leg event) _ _ (same ∙ e))
      ∙ (ap Some (end_number model (opened model leg event) events ∙ one) ∙ sym (cond-true (is_enable event) _ _ e)))
      (λ (e : is_enable event ≡ false).
      let more : suc (length (leg.events ++ event ∷ [])) ≡ suc (length leg.events) + 1 = omega (arith, length-append leg.events (event ∷ [])) in
      ap number_of (cond-false (opens model leg event) _ _ (same ∙ e))
      ∙ (numbered (and_then leg event) events is_still
      ∙ (ap (λ place. position_from is_enable place events) more ∙ sym (cond-false (is_enable event) _ _ e))))
      (cases_Bool (is_enable event))
    where
      is_still : IsBefore (and_then leg event)
      is_still = record { number = is.number; target = is.target; patches = is.patches; sound = is.sound; rest = is.rest }

      same : opens model leg event ≡ is_enable event
      same = opens_by leg event is (complete_now model lawful leg is.sound is.rest) (ap (λ n. nat_eq n 0) is.target) (differs leg.target (length leg.patches) is.target is.patches)

  opening_is : (trace : TraceValue) → IsTrace trace → opening model trace ≡ first_enable trace
  opening_is trace is =
      let run = run_of trace in
      let leg = first_leg model run in
      let before : IsBefore leg = record { number = refl; target = refl; patches = omega (arith, length-map trace.patches (patch_of (length trace.symbols)), is.patches_some); sound = start_sound model lawful run.bounds run.patches run.boots (in_range trace is); rest = λ t x live. boot_level model run.boots t x live } in
      ap (option_map (λ (end : LegEnd). end.opened)) (slice_get-map (end_of model) (opened_legs model leg trace.events) 0)
      ∙ (opened_of model (slice_get (opened_legs model leg trace.events) 0)
      ∙ (ap number_of (first_is model leg trace.events)
      ∙ numbered leg trace.events before))

module _ (trace : TraceValue) (is : IsTrace trace) (found : Comparison) (same : found ≡ comparison trace) where
  pub leg_is : found.leg ≡ first_enable trace
  unfolding comparison
  leg_is = ap (λ (c : Comparison). c.leg) same ∙ opening_is (rules_named Hybrid) hybrid_lawful trace is

  pub same_leg : (model : ModelName) → opening (rules_named model) trace ≡ found.leg
  same_leg model = opening_is (rules_named model) (lawful_named model) trace is ∙ sym leg_is
