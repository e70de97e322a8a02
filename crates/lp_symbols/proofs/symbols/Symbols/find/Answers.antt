use Rattle.std.proofs.Common.{arith}
use Rattle.std.proofs.lemmas.Grind.{common_steps}
use Rattle.lp_symbols.proofs.Maps.{maps}
use Rattle.lp_symbols.proofs.symbols.Symbols.find.Goals as goal

pub returns : goal.returns
returns c = grind (arith, maps)

pub overflow_cast-result : goal.overflow_cast-result
overflow_cast-result c = grind (arith, common_steps)
