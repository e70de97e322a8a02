use Rattle.std.proofs.Common.{arith}
use Rattle.std.proofs.lemmas.Grind.{common_steps}
use Rattle.lp_numbers.proofs.table.NumberTable.put.Goals as goal

pub returns-clause-values : goal.returns-clause-values
returns-clause-values g c = grind (arith, common_steps)
