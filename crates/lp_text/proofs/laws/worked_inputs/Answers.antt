use Rattle.lp_text.proofs.CheckRows.{inputs_compute}
use Rattle.lp_text.proofs.laws.worked_inputs.Goals as goal

pub returns : goal.returns
returns c = inputs_compute
