use Rattle.std.proofs.Common.{◌≡◌, ◌++◌, ◌∙◌, List, ℕ, ap, option_to_list, sym}
use Rattle.lp_text.specs.inside.Writing.{seen_of}
use Rattle.lp_trace.specs.inside.KeptLines.{text_of}
use Rattle.lp_trace.proofs.Pages.{held_prefix, puts_along, puts_both, puts_err}
use Rattle.lp_trace.proofs.report.legs.put_shared.Goals as goal

pub returns-in_err-put-clause-text : goal.returns-in_err-put-clause-text
returns-in_err-put-clause-text g c = λ cert found.
    let left : List ℕ = text_of (option_to_list c.turn_to-next.result.0 ++ c.turn_to-next.result.1) in
    let texts : text_of cert.lines ≡ c.as_slice.result.now ++ left = c.turn_to-next.ensures.lines cert found ∙ ap (λ text. text ++ left) (sym c.as_slice.ensures) in
    puts_err (seen_of g.W.Write.contents c.args.writer.now) (seen_of g.W.Write.contents c.put.new.writer) c.args.page.now.held.items _ _ c.from_residual.result c.from_residual.ensures.0 (held_prefix _ _ c.args.page.now.held.items c.as_slice.result.now left _ texts c.in_err-put.ensures)

pub returns-clause-text : goal.returns-clause-text
returns-clause-text g c = λ cert found.
    let left : List ℕ = text_of (option_to_list c.turn_to-next.result.0 ++ c.turn_to-next.result.1) in
    let texts : text_of cert.lines ≡ c.as_slice.result.now ++ left = c.turn_to-next.ensures.lines cert found ∙ ap (λ text. text ++ left) (sym c.as_slice.ensures) in
    puts_along (seen_of g.W.Write.contents c.args.writer.now) (seen_of g.W.Write.contents c.put_each.new.writer) c.args.page.now.held.items _ _ _ c.put_each.result (sym texts) (puts_both (seen_of g.W.Write.contents c.args.writer.now) (seen_of g.W.Write.contents c.put.new.writer) (seen_of g.W.Write.contents c.put_each.new.writer) c.args.page.now.held.items c.put.new.self.held.items _ c.as_slice.result.now left c.put_each.result c.in_ok-put.ensures c.put_each.ensures)
