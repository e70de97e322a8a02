use Rattle.std.proofs.Common.{arith}
use Rattle.std.proofs.lemmas.Grind.{common_steps}
use Rattle.lp_board.proofs.reader.BoardReader.learn.Goals as goal

pub returns-clause-told : goal.returns-clause-told
returns-clause-told g c = rw (← c.told.view_is) c.longer.ensures.that

pub invariant_of-self : goal.invariant_of-self
invariant_of-self g c = grind (arith, common_steps)
