use Rattle.std.proofs.Common.{arith}
use Rattle.std.proofs.lemmas.Grind.{common_steps}
use Rattle.lp_tasks.proofs.opening.Opening.number.Goals as goal

pub returns-clause-sound : goal.returns-clause-sound
returns-clause-sound c = grind (arith, common_steps)

pub returns-clause-opening : goal.returns-clause-opening
returns-clause-opening c = grind (arith, common_steps)
