use Rattle.std.proofs.Common.{arith}
use Rattle.lp_text.specs.Reading.{symbol_of}
use Rattle.lp_text.proofs.Symbols.{found}
use Rattle.lp_text.proofs.line.symbol_of.Goals as goal

pub returns-in_default : goal.returns-in_default
unfolding symbol_of
returns-in_default c = grind (arith, found)
