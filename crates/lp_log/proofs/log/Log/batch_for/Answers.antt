use Rattle.std.proofs.Common.{arith}
use Rattle.std.proofs.lemmas.Grind.{common_steps}
use Rattle.lp_log.proofs.log.Log.batch_for.Goals as goal

pub returns-in_err-batch-clause-yours : goal.returns-in_err-batch-clause-yours
returns-in_err-batch-clause-yours g c = grind (arith, common_steps)
