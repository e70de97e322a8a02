use Rattle.std.proofs.Common.{arith}
use Rattle.std.proofs.lemmas.Grind.{common_steps}
use Rattle.lp_numbers.proofs.Sets.{sets}
use Rattle.lp_numbers.proofs.set.NumberSet.next.Goals as goal

pub returns : goal.returns
returns c = grind (arith, sets)

pub overflow_cast-result : goal.overflow_cast-result
overflow_cast-result c = grind (arith, common_steps)
