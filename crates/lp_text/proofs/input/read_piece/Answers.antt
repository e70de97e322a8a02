use Rattle.std.proofs.Common.{arith}
use Rattle.std.proofs.lemmas.Grind.{common_steps}
use Rattle.lp_text.proofs.input.read_piece.Goals as goal

pub returns-in-Ok-clause-fault : goal.returns-in-Ok-clause-fault
returns-in-Ok-clause-fault c = grind (arith, common_steps)

pub returns-in-Ok-2-clause-counted : goal.returns-in-Ok-2-clause-counted
returns-in-Ok-2-clause-counted c = grind (arith, common_steps)
