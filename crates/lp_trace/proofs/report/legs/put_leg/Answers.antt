use Rattle.std.proofs.Common.{List, ℕ, refl}
use Rattle.std.specs.List.{flat_map}
use Rattle.lp_cert.specs.Ends.{end_in}
use Rattle.lp_text.specs.CertTexts.{cert_lines}
use Rattle.lp_text.specs.Words.{line_of}
use Rattle.lp_trace.specs.Report.{leg_line, leg_lines}
use Rattle.lp_trace.proofs.Pages.{puts_err, puts_both, held_prefix}
use Rattle.lp_text.specs.inside.Writing.{seen_of}
use Rattle.lp_trace.proofs.report.legs.put_leg.Goals as goal

pub returns-in_err-put_end : goal.returns-in_err-put_end
returns-in_err-put_end g c =
    let line : List ℕ = line_of (leg_line c.args.form (end_in c.args.leg.now)) in
    let certs : List ℕ = flat_map line_of (flat_map cert_lines c.args.leg.now.certs) in
    puts_err (seen_of g.W.Write.contents c.args.writer.now) (seen_of g.W.Write.contents c.put_end.new.writer) c.args.page.now.held.items c.put_end.new.page.held.items _ c.from_residual.result c.from_residual.ensures.0 (held_prefix _ _ c.args.page.now.held.items line certs (flat_map line_of (leg_lines c.args.form (end_in c.args.leg.now))) refl c.in_err-put_end.ensures)

pub returns : goal.returns
returns g c =
    let line : List ℕ = line_of (leg_line c.args.form (end_in c.args.leg.now)) in
    let certs : List ℕ = flat_map line_of (flat_map cert_lines c.args.leg.now.certs) in
    puts_both (seen_of g.W.Write.contents c.args.writer.now) (seen_of g.W.Write.contents c.put_end.new.writer) (seen_of g.W.Write.contents c.put_certs.new.writer) c.args.page.now.held.items c.put_end.new.page.held.items c.put_certs.new.page.held.items line certs c.put_certs.result c.in_ok-put_end.ensures c.put_certs.ensures
