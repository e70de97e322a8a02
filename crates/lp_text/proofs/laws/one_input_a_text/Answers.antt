use Rattle.lp_text.proofs.InputsComplete.{one_input}
use Rattle.lp_text.proofs.laws.one_input_a_text.Goals as goal

pub returns : goal.returns
returns c = one_input
