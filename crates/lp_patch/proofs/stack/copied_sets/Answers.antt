use Rattle.std.proofs.Common.{arith}
use Rattle.std.proofs.lemmas.Grind.{common_steps}
use Rattle.lp_patch.proofs.stack.copied_sets.Goals as goal

pub loop-set-preserved : goal.loop-set-preserved
loop-set-preserved c = grind (arith, common_steps)

pub returns : goal.returns
returns c = grind (arith, common_steps)
