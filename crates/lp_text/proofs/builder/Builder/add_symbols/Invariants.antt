use Rattle.std.proofs.Common.{◌≡◌, ◌++◌, take}
use Rattle.lp_text.specs.Traces.{sym_words}
use Rattle.lp_text.proofs.Goes.{Goes}
use Rattle.lp_text.proofs.builder.Builder.add_symbols.Given as goal

abbrev pub invariant-loop-i : goal.invariant-loop-i
invariant-loop-i l =
    Goes (sym_words) l.initial.self.place l.initial.self.parser l.symbols l.self.place l.self.size l.self.parser l.i × (l.self.parser ≡ record l.initial.self.parser { symbols = l.initial.self.parser.symbols ++ take l.i l.symbols })
