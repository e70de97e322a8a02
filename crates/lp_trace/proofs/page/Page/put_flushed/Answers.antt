use Rattle.std.proofs.Common.{◌++◌, ◌∙◌, refl, arith}
use Rattle.std.proofs.lemmas.Grind.{common_steps}
use Rattle.lp_text.proofs.Writing.{prefix_more, wrote}
use Rattle.lp_trace.proofs.Pages.{puts_err, written_past}
use Rattle.lp_text.specs.inside.Writing.{seen_of}
use Rattle.lp_trace.proofs.page.Page.put_flushed.Goals as goal

pub returns-in_err-flush : goal.returns-in_err-flush
returns-in_err-flush g c =
    puts_err _ _ c.args.self.now.held.items _ c.args.bytes.now c.from_residual.result c.from_residual.ensures.0 (prefix_more _ _ c.args.self.now.held.items c.args.bytes.now (c.args.self.now.held.items ++ c.args.bytes.now) refl c.in_err-flush.ensures.written)

pub returns : goal.returns
returns g c =
    written_past (seen_of g.W.Write.contents c.args.writer.now) (seen_of g.W.Write.contents c.flush.new.writer) _ c.args.self.now.held.items c.hold.new.self.items c.args.bytes.now c.put.result (c.hold.ensures.kept c.if-hold.false ∙ c.in_ok-flush.ensures.empty) c.in_ok-flush.ensures.written (wrote g.W.Write.contents c.flush.new.writer c.put.new.writer c.args.bytes.now c.put.result c.put.ensures.written c.put.ensures.writes)

pub returns-then-hold : goal.returns-then-hold
returns-then-hold g c = grind (arith, common_steps)
