use Rattle.std.proofs.Common.{arith}
use Rattle.std.proofs.lemmas.Grind.{common_steps}
use Rattle.lp_text.proofs.quick.first_four.Goals as goal

pub returns-in-len4-up : goal.returns-in-len4-up
returns-in-len4-up c = grind (arith, common_steps)
