use Rattle.lp_text.proofs.Complete.{one_value}
use Rattle.lp_text.proofs.laws.one_trace_a_text.Goals as goal

pub returns : goal.returns
returns c = one_value
