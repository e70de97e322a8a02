use Rattle.std.proofs.Common.{arith}
use Rattle.std.proofs.lemmas.Grind.{common_steps}
use Rattle.lp_text.proofs.quick.stop_rest.Goals as goal

pub returns : goal.returns
returns c = grind (arith, common_steps)
