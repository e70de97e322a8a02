use Rattle.std.proofs.Common.{arith}
use Rattle.std.proofs.lemmas.Grind.{common_steps}
use Rattle.lp_desk.proofs.desk.Desk.command.Goals as goal

pub take-requires-clause-walk : goal.take-requires-clause-walk
take-requires-clause-walk c = grind (arith, common_steps)
