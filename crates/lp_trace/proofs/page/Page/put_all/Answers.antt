use Rattle.std.proofs.Common.{arith}
use Rattle.std.proofs.lemmas.Grind.{common_steps}
use Rattle.lp_trace.proofs.Pages.{puts_err, held_err, held_next, pieces_at}
use Rattle.lp_text.specs.inside.Writing.{seen_of}
use Rattle.lp_trace.proofs.page.Page.put_all.Goals as goal

pub returns-in_err-put : goal.returns-in_err-put
returns-in_err-put g c =
    puts_err _ _ c.args.self.now.held.items _ _ c.from_residual.result c.from_residual.ensures.0 (held_err _ (seen_of g.W.Write.contents c.loop-piece.writer) _ _ c.loop-piece.self.held.items _ _ _ (pieces_at c.args.pieces.now c.loop-piece.piece-index _ c.loop-piece-test.true) c.loop-piece.invariant c.in_err-put.ensures)

pub loop-piece-preserved : goal.loop-piece-preserved
loop-piece-preserved g c =
    held_next _ (seen_of g.W.Write.contents c.loop-piece.writer) _ _ c.loop-piece.self.held.items _ _ _ c.put.new.self.held.items (pieces_at c.args.pieces.now c.loop-piece.piece-index _ c.loop-piece-test.true) c.loop-piece.invariant c.in_ok-put.ensures

pub returns : goal.returns
returns g c = grind (arith, common_steps)
