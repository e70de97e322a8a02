use Rattle.std.proofs.Common.{arith}
use Rattle.std.proofs.lemmas.Grind.{common_steps}
use Rattle.lp_compare.proofs.first_end.births.Goals as goal

pub overflow_add-births : goal.overflow_add-births
overflow_add-births c = grind (arith, common_steps)

pub loop-line-preserved-then-matches : goal.loop-line-preserved-then-matches
loop-line-preserved-then-matches c = grind (arith, common_steps)
