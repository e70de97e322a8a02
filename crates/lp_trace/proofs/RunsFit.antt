-- Reports show the outcomes of runs whole, and so tell them apart.
use Rattle.std.proofs.Common.{◌≡◌, ℕ, ◌<◌, ◌≤◌, List, [], ◌∷◌, length, refl, arith}
use Rattle.std.specs.List.{AllByRecursion}
use Rattle.std.proofs.lemmas.List.{length-map}
use Rattle.std.proofs.lemmas.List.Elements.{All-cons, All-nil}
use Rattle.lp_stack.specs.declared.number.TaskId.{TaskId}
use Rattle.lp_stack.specs.declared.view.Class.{Class}
use Rattle.lp_model.specs.Rules.{Rules, IsLawful}
use Rattle.lp_definitions.specs.Run.{AreInRange, first_leg, task_numbers}
use Rattle.lp_text.specs.declared.form.TraceForm.{TraceForm}
use Rattle.lp_text.specs.declared.form.TraceForm.TheVariants.{Single, Stacked, WithResched}
use Rattle.lp_text.specs.Traces.{IsTask, IsTrace, TraceValue, most_patches}
use Rattle.lp_replay.specs.Outcome.{whole_run, outcome, patch_of, run_of}
use Rattle.lp_trace.specs.Laws.{FitsReport, IsWholeLevel, ReportsTellRuns, RunsFitReports}
use Rattle.lp_trace.proofs.OneOutcome.{one_outcome}
use Rattle.lp_trace.proofs.RunLegs.{legs_whole}
use Rattle.lp_trace.proofs.RunLevels.{start_up_to}
use Rattle.lp_trace.proofs.RunReplies.{replies_whole}
use Rattle.lp_trace.proofs.RunStays.{mixed_up_to, stays_whole}

-- one patch has the levels 0 and 1
levels_whole : (form : TraceForm) (n : ℕ) → n ≤ most_patches form → (level : ℕ) → level ≤ n → IsWholeLevel form (record { 0 = level })
levels_whole Single n few level h = omega arith
levels_whole Stacked n few level h = omega arith
levels_whole WithResched n few level h = omega arith

few_patches : (form : TraceForm) (n : ℕ) → n ≤ most_patches form → n ≤ 16
few_patches Single n h = omega arith
few_patches Stacked n h = h
few_patches WithResched n h = h

boots_in_range : (symbols : ℕ) (boots : List (TaskId × Class)) → AllByRecursion (λ (boot : TaskId × Class). IsTask boot.0) boots → AreInRange (task_numbers symbols) boots
boots_in_range symbols [] h = All-nil (λ (boot : TaskId × Class). (0 < boot.0.0) × (boot.0.0 ≤ 65535))
boots_in_range symbols (boot ∷ boots) h =
    All-cons (λ (boot : TaskId × Class). (0 < boot.0.0) × (boot.0.0 ≤ 65535)) boot boots (omega (arith, h.0.0), omega (arith, h.0.1)) (boots_in_range symbols boots h.1)

module _ (model : Rules) (lawful : IsLawful model) (trace : TraceValue) (is : IsTrace trace) where
  fits : FitsReport trace.form (outcome model trace)
  unfolding outcome
  fits =
      let run = whole_run trace in
      let first = first_leg model (run_of trace) in
      let n : ℕ = length run.patches in
      let count : n ≡ length trace.patches = length-map trace.patches (patch_of (length trace.symbols)) in
      let most : n ≤ most_patches trace.form = omega (arith, count, is.patches_few) in
      let levels = levels_whole trace.form n most in
      let in_range = boots_in_range (length trace.symbols) trace.boots is.boots in
      let stays = stays_whole model first trace.events (omega arith) (few_patches trace.form n most) is.events_few in
      record {
        replies = replies_whole trace.form model n levels first trace.events (start_up_to model run.bounds run.patches run.boots (omega arith));
        legs = legs_whole trace.form model lawful n levels run in_range refl (omega arith) is.events_few;
        stays = omega (arith, stays);
        mixed = omega (arith, stays, mixed_up_to model first trace.events);
      }

pub runs_fit : (model : Rules) → IsLawful model → RunsFitReports model
runs_fit model lawful trace is = fits model lawful trace is

pub reports_tell : (model other_model : Rules) → IsLawful model → IsLawful other_model → ReportsTellRuns model other_model
reports_tell model other_model lawful other_lawful trace other name other_name is other_is whole other_whole e =
    one_outcome trace.form other.form name other_name (outcome model trace) (outcome other_model other) whole other_whole (fits model lawful trace is) (fits other_model other_lawful other other_is) e
