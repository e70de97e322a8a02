use Rattle.std.proofs.Common.{arith}
use Rattle.std.proofs.lemmas.Grind.{common_steps}
use Rattle.lp_board.proofs.update.set_of.Goals as goal

pub returns : goal.returns
returns c = grind (arith, common_steps)

pub loop-group-preserved : goal.loop-group-preserved
loop-group-preserved c = grind (arith, common_steps)
