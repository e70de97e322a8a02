use Rattle.std.proofs.Common.{rules}
use Rattle.lp_text.specs.Reading.{at_end}
use Rattle.lp_text.proofs.parser.Parser.at_end.Goals as goal

pub returns-then-not-is_empty : goal.returns-then-not-is_empty
unfolding at_end
returns-then-not-is_empty c = search rules
