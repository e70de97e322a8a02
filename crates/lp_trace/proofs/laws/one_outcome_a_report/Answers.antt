use Rattle.lp_trace.proofs.OneOutcome.{one_outcome}
use Rattle.lp_trace.proofs.laws.one_outcome_a_report.Goals as goal

pub returns : goal.returns
returns c = one_outcome
