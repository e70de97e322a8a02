use Rattle.std.proofs.Common.{arith}
use Rattle.std.proofs.lemmas.Grind.{common_steps}
use Rattle.lp_stays.proofs.holders.all_holders.Goals as goal

pub loop-func-preserved : goal.loop-func-preserved
loop-func-preserved c = grind (arith, common_steps)
