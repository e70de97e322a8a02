use Rattle.std.proofs.Common.{arith}
use Rattle.lp_numbers.proofs.Ascents.{ascents}
use Rattle.lp_numbers.proofs.ascending.AscendingIterator.next.Goals as goal

pub returns-clause-steps : goal.returns-clause-steps
returns-clause-steps c = grind (arith, ascents)

pub returns-clause-goes : goal.returns-clause-goes
returns-clause-goes c = grind (arith, ascents)
