use Rattle.lp_trace.proofs.RunOutcomes.{whole_outcome_of}
use Rattle.lp_trace.proofs.runs.outcome_of.Goals as goal

pub returns : goal.returns
returns g c =
    whole_outcome_of g.M.Consistency.rules c.args.trace.now c.replay.result c.replay.ensures.replies c.replay.ensures.legs c.replay.ensures.stays c.replay.ensures.mixed
