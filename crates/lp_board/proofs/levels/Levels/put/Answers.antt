use Rattle.std.proofs.Common.{arith}
use Rattle.std.proofs.lemmas.Grind.{common_steps}
use Rattle.lp_board.proofs.levels.Levels.put.Goals as goal

pub returns-then-at-len : goal.returns-then-at-len
returns-then-at-len c = grind (arith, common_steps)
