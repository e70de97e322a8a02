use Rattle.std.proofs.Common.{arith}
use Rattle.std.proofs.lemmas.Grind.{common_steps}
use Rattle.lp_log.proofs.log.Log.batch.Goals as goal

pub returns-clause-patches : goal.returns-clause-patches
returns-clause-patches g c = grind (arith, common_steps)

pub returns-clause-target : goal.returns-clause-target
returns-clause-target g c = grind (arith, common_steps)
