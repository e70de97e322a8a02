use Rattle.std.proofs.Common.{arith}
use Rattle.std.proofs.lemmas.Grind.{common_steps}
use Rattle.lp_log.proofs.log.Log.prepare_order.Goals as goal

pub returns-in-Ok-clause-not_yours : goal.returns-in-Ok-clause-not_yours
returns-in-Ok-clause-not_yours g c = grind (arith, common_steps)

pub returns-in-Ok-clause-yours : goal.returns-in-Ok-clause-yours
returns-in-Ok-clause-yours g c = grind (arith, common_steps)

pub returns-in-Ok-clause-left : goal.returns-in-Ok-clause-left
returns-in-Ok-clause-left g c = grind (arith, common_steps)

pub returns-in-Ok-clause-full : goal.returns-in-Ok-clause-full
returns-in-Ok-clause-full g c = grind (arith, common_steps)

pub returns-in-Ok-clause-answer : goal.returns-in-Ok-clause-answer
returns-in-Ok-clause-answer g c = grind (arith, common_steps)

pub returns-in-Ok-clause-event : goal.returns-in-Ok-clause-event
returns-in-Ok-clause-event g c = grind (arith, common_steps)
