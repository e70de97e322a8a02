use Rattle.std.proofs.Common.{arith}
use Rattle.std.proofs.lemmas.Grind.{common_steps}
use Rattle.lp_program.proofs.program.act.Goals as goal

pub returns-in-Threads-clause-ends : goal.returns-in-Threads-clause-ends
returns-in-Threads-clause-ends c = grind (arith, common_steps)
