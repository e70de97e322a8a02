use Rattle.std.proofs.Common.{rules}
use Rattle.lp_symbols.proofs.symbols.Symbols.new.Goals as goal

pub returns : goal.returns
returns c = search rules
