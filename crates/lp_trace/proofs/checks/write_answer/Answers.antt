use Rattle.std.proofs.Common.{List, ℕ, ◌++◌, refl}
use Rattle.lp_text.specs.inside.Writing.{Seen, Wrote, seen_of}
use Rattle.lp_trace.specs.Answer.{answer_words}
use Rattle.lp_text.specs.Words.{line_of}
use Rattle.lp_text.proofs.Writing.{left_last, writes_err, writes_of, writes_to_end}
use Rattle.lp_trace.proofs.checks.write_answer.Goals as goal

pub returns-in_err-put_answer : goal.returns-in_err-put_answer
returns-in_err-put_answer g c =
    let old : Seen = seen_of g.W.Write.contents c.args.writer.now in
    let new : Seen = seen_of g.W.Write.contents c.put_answer.new.writer in
    let text : List ℕ = c.args.page.now.held.items ++ line_of (answer_words c.args.answer) in
    let it : Wrote old new c.from_residual.result text = writes_err old new text c.from_residual.result c.from_residual.ensures.0 c.in_err-put_answer.ensures in record {
      written = writes_of g.W.Write.contents c.args.writer.now c.put_answer.new.writer text c.from_residual.result it;
      writes = writes_to_end g.W.Write.contents c.args.writer.now c.put_answer.new.writer text c.from_residual.result it;
    }

pub returns : goal.returns
returns g c =
    let old : Seen = seen_of g.W.Write.contents c.args.writer.now in
    let new : Seen = seen_of g.W.Write.contents c.flush.new.writer in
    let text : List ℕ = c.args.page.now.held.items ++ line_of (answer_words c.args.answer) in
    let it : Wrote old new c.flush.result text = left_last old (seen_of g.W.Write.contents c.put_answer.new.writer) new text c.put_answer.new.page.held.items c.put_answer.new.page.held.items c.flush.result refl c.in_ok-put_answer.ensures c.flush.ensures.written in record {
      written = writes_of g.W.Write.contents c.args.writer.now c.flush.new.writer text c.flush.result it;
      writes = writes_to_end g.W.Write.contents c.args.writer.now c.flush.new.writer text c.flush.result it;
    }
