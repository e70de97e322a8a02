use Rattle.std.proofs.Common.{◌≡◌, IsTrue}
use Rattle.lp_definitions.specs.Run.{first_leg, replies}
use Rattle.lp_definitions.specs.Stays.{mixed_count, stay_count}
use Rattle.lp_text.specs.Traces.{IsTrace}
use Rattle.lp_definitions.specs.Outcome.{Outcome, leg_ends, IsOutcome}
use Rattle.lp_definitions.specs.Headline.{Headline}
use Rattle.lp_replay.specs.Outcome.{whole_run, run_of}
use Rattle.lp_replay.proofs.Headline.{headline_of_trace}
use Rattle.lp_replay.proofs.Recording.{ok_weaker}
use Rattle.lp_replay.proofs.replays.replay.Goals as goal

pub returns-clause-replies : goal.returns-clause-replies
returns-clause-replies g c =
    let model = g.M.Consistency.rules in
    let trace = c.args.trace.now in
    ok_weaker (λ (found : Outcome). IsTrace trace × IsOutcome model (whole_run trace) found) (λ (found : Outcome). found.replies ≡ replies model (first_leg model (run_of trace)) trace.events) (λ found h. h.1.replied) c.outcome_of.result c.outcome_of.ensures

pub returns-clause-legs : goal.returns-clause-legs
returns-clause-legs g c =
    let model = g.M.Consistency.rules in
    let trace = c.args.trace.now in
    ok_weaker (λ (found : Outcome). IsTrace trace × IsOutcome model (whole_run trace) found) (λ (found : Outcome). found.legs ≡ leg_ends model (first_leg model (run_of trace)) trace.events) (λ found h. h.1.legs) c.outcome_of.result c.outcome_of.ensures

pub returns-clause-stays : goal.returns-clause-stays
returns-clause-stays g c =
    let model = g.M.Consistency.rules in
    let trace = c.args.trace.now in
    ok_weaker (λ (found : Outcome). IsTrace trace × IsOutcome model (whole_run trace) found) (λ (found : Outcome). found.stays ≡ stay_count model (first_leg model (run_of trace)) trace.events) (λ found h. h.1.stays) c.outcome_of.result c.outcome_of.ensures

pub returns-clause-mixed : goal.returns-clause-mixed
returns-clause-mixed g c =
    let model = g.M.Consistency.rules in
    let trace = c.args.trace.now in
    ok_weaker (λ (found : Outcome). IsTrace trace × IsOutcome model (whole_run trace) found) (λ (found : Outcome). found.mixed ≡ mixed_count model (first_leg model (run_of trace)) trace.events) (λ found h. h.1.mixed) c.outcome_of.result c.outcome_of.ensures

pub returns-clause-unmixed : goal.returns-clause-unmixed
returns-clause-unmixed g c =
    let model = g.M.Consistency.rules in
    let trace = c.args.trace.now in
    ok_weaker (λ (found : Outcome). IsTrace trace × IsOutcome model (whole_run trace) found) (λ (found : Outcome). IsTrue model.whole_call → found.mixed ≡ 0) (λ found h whole. ((headline_of_trace model g.met.M.Consistency.lawful trace h.0 found h.1).one_version whole).1) c.outcome_of.result c.outcome_of.ensures

pub returns-clause-headline : goal.returns-clause-headline
returns-clause-headline g c =
    let model = g.M.Consistency.rules in
    let trace = c.args.trace.now in
    ok_weaker (λ (found : Outcome). IsTrace trace × IsOutcome model (whole_run trace) found) (λ (found : Outcome). Headline model (whole_run trace) found) (λ found h. headline_of_trace model g.met.M.Consistency.lawful trace h.0 found h.1) c.outcome_of.result c.outcome_of.ensures
