use Rattle.std.proofs.Common.{map, drop}
use Rattle.std.specs.List.{flat_map}
use Rattle.lp_text.specs.Words.{line_of}
use Rattle.lp_text.specs.Traces.{sym_words}
use Rattle.lp_text.specs.inside.Writing.{Left, seen_of}
use Rattle.lp_text.proofs.write.put_symbols.Given as goal

abbrev pub invariant-loop-i : goal.invariant-loop-i
invariant-loop-i g l =
    Left (seen_of g.W.Write.contents l.fn.writer) (seen_of g.W.Write.contents l.writer) (flat_map line_of (map sym_words l.fn.symbols)) (flat_map line_of (map sym_words (drop l.i l.fn.symbols)))
