use Rattle.lp_text.proofs.QuickLines.{cached_is}
use Rattle.lp_text.proofs.symbol_cache.SymbolCache.cached.Goals as goal

pub returns-then-is_name_of-clause-known : goal.returns-then-is_name_of-clause-known
returns-then-is_name_of-clause-known c = (cached_is c.args.symbols.now c.args.name.now _ (c.is_name_of.ensures c.if-is_name_of.true)).0

pub returns-then-is_name_of-clause-name : goal.returns-then-is_name_of-clause-name
returns-then-is_name_of-clause-name c = (cached_is c.args.symbols.now c.args.name.now _ (c.is_name_of.ensures c.if-is_name_of.true)).1
