use Rattle.std.proofs.Common.{arith}
use Rattle.lp_numbers.proofs.Sets.{sets}
use Rattle.lp_numbers.proofs.set.NumberSet.new.Goals as goal

pub returns-clause-empty : goal.returns-clause-empty
returns-clause-empty c = grind (arith, sets)
