use Rattle.std.proofs.Common.{arith}
use Rattle.std.proofs.lemmas.Grind.{common_steps}
use Rattle.lp_text.proofs.parser.Parser.part_reached.Goals as goal

pub returns-else-not-is_empty-3 : goal.returns-else-not-is_empty-3
returns-else-not-is_empty-3 c = grind (arith, common_steps)

pub returns-then-not-is_empty-3 : goal.returns-then-not-is_empty-3
returns-then-not-is_empty-3 c = grind (arith, common_steps)
