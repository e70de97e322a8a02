use Rattle.std.proofs.Common.{arith}
use Rattle.std.proofs.lemmas.Grind.{common_steps}
use Rattle.lp_trace.proofs.held.place_claim.Goals as goal

pub returns-clause-size : goal.returns-clause-size
returns-clause-size c = grind (arith, common_steps)

pub returns-clause-placed : goal.returns-clause-placed
returns-clause-placed c = grind (arith, common_steps)
