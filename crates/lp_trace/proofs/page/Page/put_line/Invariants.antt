use Rattle.std.proofs.Common.{◌++◌, ◌∷◌, map, drop}
use Rattle.lp_text.specs.Words.{line_of}
use Rattle.lp_text.specs.inside.Writing.{Left, line_rest, seen_of}
use Rattle.lp_trace.proofs.page.Page.put_line.Given as goal

abbrev pub invariant-loop-word : goal.invariant-loop-word
invariant-loop-word g l =
    Left (seen_of g.W.Write.contents l.fn.writer) (seen_of g.W.Write.contents l.writer) (l.fn.self.held.items ++ line_of (l.fn.first ∷ map (λ word. word.now) l.fn.words)) (l.self.held.items ++ line_rest (map (λ word. word.now) (drop l.word-index l.fn.words)))
