use Rattle.std.proofs.Common.{List, ℕ, ◌++◌, refl}
use Rattle.lp_text.specs.inside.Writing.{Seen, Wrote, seen_of}
use Rattle.lp_trace.specs.Report.{report}
use Rattle.lp_text.proofs.Writing.{left_last, writes_err, writes_of, writes_to_end}
use Rattle.lp_trace.proofs.report.write_report.Goals as goal

pub returns-in_err-put_report : goal.returns-in_err-put_report
returns-in_err-put_report g c =
    let old : Seen = seen_of g.W.Write.contents c.args.writer.now in
    let new : Seen = seen_of g.W.Write.contents c.put_report.new.writer in
    let text : List ℕ = c.args.page.now.held.items ++ report c.args.form c.args.name.now c.args.outcome.now in
    let it : Wrote old new c.from_residual.result text = writes_err old new text c.from_residual.result c.from_residual.ensures.0 c.in_err-put_report.ensures in record {
      written = writes_of g.W.Write.contents c.args.writer.now c.put_report.new.writer text c.from_residual.result it;
      writes = writes_to_end g.W.Write.contents c.args.writer.now c.put_report.new.writer text c.from_residual.result it;
    }

pub returns : goal.returns
returns g c =
    let old : Seen = seen_of g.W.Write.contents c.args.writer.now in
    let new : Seen = seen_of g.W.Write.contents c.flush.new.writer in
    let text : List ℕ = c.args.page.now.held.items ++ report c.args.form c.args.name.now c.args.outcome.now in
    let it : Wrote old new c.flush.result text = left_last old (seen_of g.W.Write.contents c.put_report.new.writer) new text c.put_report.new.page.held.items c.put_report.new.page.held.items c.flush.result refl c.in_ok-put_report.ensures c.flush.ensures.written in record {
      written = writes_of g.W.Write.contents c.args.writer.now c.flush.new.writer text c.flush.result it;
      writes = writes_to_end g.W.Write.contents c.args.writer.now c.flush.new.writer text c.flush.result it;
    }
