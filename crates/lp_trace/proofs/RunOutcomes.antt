-- Outcomes put together, and the headline of what was read.
use Rattle.std.proofs.Common.{◌≡◌, ℕ, List, Option, Result, Ok, Err, ap, ◌∙◌}
use Rattle.std.specs.Prelude.{IfOk}
use Rattle.lp_model.specs.Rules.{Rules, IsLawful}
use Rattle.lp_definitions.specs.declared.reply.Reply.{Reply}
use Rattle.lp_definitions.specs.Run.{first_leg, replies}
use Rattle.lp_definitions.specs.Stays.{mixed_count, stay_count}
use Rattle.lp_definitions.specs.Ends.{LegEnd}
use Rattle.lp_text.specs.Input.{ReadsAll}
use Rattle.lp_text.specs.Traces.{TraceValue, IsTrace, text_of}
use Rattle.lp_definitions.specs.Outcome.{Outcome, leg_ends}
use Rattle.lp_definitions.specs.Headline.{Headline}
use Rattle.lp_replay.specs.Outcome.{whole_run, outcome, run_of}
use Rattle.lp_replay.proofs.Headline.{headline_of_trace, outcome_is}
use Rattle.lp_replay.specs.Runs.{ReadsTrace}

abbrev with_fields : List Reply → List LegEnd → ℕ → ℕ → Outcome
with_fields replies legs stays mixed = record { replies = replies; legs = legs; stays = stays; mixed = mixed }

-- the fields of an outcome, put together
pub whole_outcome : (model : Rules) (trace : TraceValue) (found : Outcome) → found.replies ≡ replies model (first_leg model (run_of trace)) trace.events → found.legs ≡ leg_ends model (first_leg model (run_of trace)) trace.events → found.stays ≡ stay_count model (first_leg model (run_of trace)) trace.events → found.mixed ≡ mixed_count model (first_leg model (run_of trace)) trace.events → found ≡ outcome model trace
unfolding outcome
whole_outcome model trace found e h k m =
    ap (λ x. with_fields x found.legs found.stays found.mixed) e
    ∙ ap (λ x. with_fields (replies model (first_leg model (run_of trace)) trace.events) x found.stays found.mixed) h
    ∙ ap (λ x. with_fields (replies model (first_leg model (run_of trace)) trace.events) (leg_ends model (first_leg model (run_of trace)) trace.events) x found.mixed) k
    ∙ ap (λ x. with_fields (replies model (first_leg model (run_of trace)) trace.events) (leg_ends model (first_leg model (run_of trace)) trace.events) (stay_count model (first_leg model (run_of trace)) trace.events) x) m

-- the same of an answer
pub whole_outcome_of : {E : Type 0} (model : Rules) (trace : TraceValue) (r : Result Outcome E) → IfOk r (λ found. found.replies ≡ replies model (first_leg model (run_of trace)) trace.events) → IfOk r (λ found. found.legs ≡ leg_ends model (first_leg model (run_of trace)) trace.events) → IfOk r (λ found. found.stays ≡ stay_count model (first_leg model (run_of trace)) trace.events) → IfOk r (λ found. found.mixed ≡ mixed_count model (first_leg model (run_of trace)) trace.events) → IfOk r (λ found. found ≡ outcome model trace)
whole_outcome_of model trace (Ok found) e h k m = whole_outcome model trace found e h k m
whole_outcome_of model trace (Err x) e h k m = tt

-- ---- The headline

-- what was read is a trace, of which this holds, and the headline holds of its outcome
pub headline_of_text : (model : Rules) → IsLawful model → (old new : Option (List ℕ)) (trace : TraceValue) (P : TraceValue → Type 0) → IsTrace trace → ReadsAll old new (text_of trace) → P trace → ReadsTrace old new (λ read. P read × Headline model (whole_run read) (outcome model read))
headline_of_text model lawful old new trace P is reads h =
    (trace, is, reads, (h, headline_of_trace model lawful trace is (outcome model trace) (outcome_is model lawful trace)))
