use Rattle.std.proofs.Common.{arith}
use Rattle.std.proofs.lemmas.Grind.{common_steps}
use Rattle.lp_numbers.proofs.Sets.{sets}
use Rattle.lp_numbers.proofs.set.NumberSet.clear.Goals as goal

pub returns-clause-empty : goal.returns-clause-empty
returns-clause-empty c = grind (arith, sets)

pub invariant_of-self : goal.invariant_of-self
invariant_of-self c = grind (arith, common_steps)
