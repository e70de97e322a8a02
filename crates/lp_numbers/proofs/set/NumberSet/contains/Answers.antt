use Rattle.std.proofs.Common.{arith}
use Rattle.lp_numbers.proofs.Sets.{sets}
use Rattle.lp_numbers.proofs.set.NumberSet.contains.Goals as goal

pub returns-clause-member : goal.returns-clause-member
returns-clause-member c = grind (arith, sets)
