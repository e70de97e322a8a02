use Rattle.std.proofs.Common.{arith, ap, length, subst, List}
use Rattle.lp_definitions.specs.declared.event.Event.{Event}
use Rattle.lp_definitions.specs.Run.{Run}
use Rattle.lp_text.specs.Traces.{IsTrace}
use Rattle.lp_definitions.specs.Outcome.{Outcome, IsOutcome}
use Rattle.lp_replay.specs.Outcome.{whole_run, run_of}
use Rattle.lp_replay.specs.inside.Recording.{IsRecorded}
use Rattle.lp_replay.proofs.Recording.{ok_weaker}
use Rattle.lp_replay.proofs.replays.outcome_of.Goals as goal

pub record_all-requires : goal.record_all-requires
record_all-requires g c =
    (run_of c.args.trace.now, c.in_ok-recorder.ensures, omega (arith, ap length c.events.ensures.value, c.events.ensures.limits.events_few))

pub returns-in-Ok : goal.returns-in-Ok
returns-in-Ok g c =
    let model = g.M.Consistency.rules in
    let trace = c.args.trace.now in
    let recorder = c.record_all.new.self in
    let whole = subst (λ (events : List Event). IsRecorded model (record (run_of trace) { events = events }) recorder) c.events.ensures.value (c.in-Ok.ensures (run_of trace) c.in_ok-recorder.ensures) in
    ok_weaker (λ (found : Outcome). (run : Run) → IsRecorded model run recorder → IsOutcome model run found) (λ (found : Outcome). IsTrace trace × IsOutcome model (whole_run trace) found) (λ found h. (c.events.ensures.limits, h _ whole)) c.finish.result c.finish.ensures
