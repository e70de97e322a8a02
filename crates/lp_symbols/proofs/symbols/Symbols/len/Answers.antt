use Rattle.std.specs.Str.{bytes_eq}
use Rattle.std.specs.String.{string_bytes}
use Rattle.lp_symbols.proofs.Maps.{IsDistinct-map}
use Rattle.lp_symbols.proofs.symbols.Symbols.len.Goals as goal

pub returns-clause-distinct : goal.returns-clause-distinct
returns-clause-distinct c = rw (← c.self.view_is) (IsDistinct-map string_bytes bytes_eq c.self.inside.names.keys c.len.ensures.unique)
