use Rattle.std.proofs.Common.{◌++◌, map, drop}
use Rattle.std.specs.List.{concat}
use Rattle.lp_text.specs.inside.Writing.{Left, seen_of}
use Rattle.lp_trace.proofs.page.Page.put_all.Given as goal

abbrev pub invariant-loop-piece : goal.invariant-loop-piece
invariant-loop-piece g l =
    Left (seen_of g.W.Write.contents l.fn.writer) (seen_of g.W.Write.contents l.writer) (l.fn.self.held.items ++ concat (map (λ piece. piece.now) l.fn.pieces)) (l.self.held.items ++ concat (map (λ piece. piece.now) (drop l.piece-index l.fn.pieces)))
