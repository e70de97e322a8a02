use Rattle.std.proofs.Common.{arith}
use Rattle.std.proofs.lemmas.Grind.{common_steps}
use Rattle.lp_desk.proofs.desk.Desk.submit.Goals as goal

pub returns-clause-not_yours : goal.returns-clause-not_yours
returns-clause-not_yours g c = c.submit.ensures.not_yours

pub returns-clause-sent : goal.returns-clause-sent
returns-clause-sent g c = grind (arith, common_steps)
