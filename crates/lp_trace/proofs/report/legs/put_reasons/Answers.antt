use Rattle.std.proofs.Common.{◌≡◌, ◌++◌, ◌∙◌, Some, ap, option_to_list, sym}
use Rattle.std.specs.Option.{option_map}
use Rattle.lp_definitions.specs.declared.cert.Cert.{Cert}
use Rattle.lp_text.specs.inside.Writing.{seen_of}
use Rattle.lp_trace.specs.inside.KeptLines.{text_of}
use Rattle.lp_trace.proofs.KeptLines.{next_left, none_left}
use Rattle.lp_trace.proofs.Pages.{puts_along}
use Rattle.lp_trace.proofs.report.legs.put_reasons.Goals as goal

pub put_each-requires : goal.put_each-requires
put_each-requires g c = none_left c.lines-lines.result c.next-first.new.self c.next-first.result c.next-first.ensures.line c.next-first.ensures.left

pub returns-clause-text : goal.returns-clause-text
returns-clause-text g c = λ cert found.
    let lines : Some cert.lines ≡ Some c.lines-lines.result = sym (ap (option_map (λ (cert : Cert). cert.lines)) found) ∙ c.lines-lines.ensures in
    let same : c.lines-lines.result ≡ cert.lines = cc in
    let text : text_of (option_to_list c.next-first.result ++ c.next-first.new.self) ≡ text_of cert.lines = ap text_of (next_left c.lines-lines.result c.next-first.new.self c.next-first.result c.next-first.ensures.line c.next-first.ensures.left ∙ same) in
    puts_along (seen_of g.W.Write.contents c.args.writer.now) (seen_of g.W.Write.contents c.put_each.new.writer) c.args.page.now.held.items _ _ _ c.put_each.result text c.put_each.ensures
