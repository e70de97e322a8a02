use Rattle.std.proofs.Common.{arith}
use Rattle.std.proofs.lemmas.Grind.{common_steps}
use Rattle.lp_checker.proofs.cursor.Cursor.number.Goals as goal

pub returns-clause-opening : goal.returns-clause-opening
returns-clause-opening c = grind (arith, common_steps)
