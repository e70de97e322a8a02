use Rattle.std.proofs.Common.{arith}
use Rattle.std.proofs.lemmas.Grind.{common_steps}
use Rattle.lp_text.specs.Reading.{add_symbol}
use Rattle.lp_text.proofs.Symbols.{odd_symbol}
use Rattle.lp_text.proofs.parser.Parser.add_symbol.Goals as goal

pub returns-in_default : goal.returns-in_default
unfolding add_symbol
returns-in_default c = grind (arith, odd_symbol)

pub invariant_of-self : goal.invariant_of-self
invariant_of-self c = grind (arith, common_steps)
