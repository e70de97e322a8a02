use Rattle.std.proofs.Common.{rules}
use Rattle.lp_text.proofs.number.is_numeral.Goals as goal

pub returns-else-word-eq1 : goal.returns-else-word-eq1
returns-else-word-eq1 c = search rules
