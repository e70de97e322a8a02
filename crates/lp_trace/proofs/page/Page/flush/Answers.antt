use Rattle.std.proofs.Common.{refl, subst}
use Rattle.lp_text.specs.inside.Writing.{Takes, Wrote, seen_of}
use Rattle.lp_text.proofs.Writing.{writes_err}
use Rattle.lp_trace.proofs.page.Page.flush.Goals as goal

pub returns-in_err-put-clause-written : goal.returns-in_err-put-clause-written
returns-in_err-put-clause-written g c =
    subst (λ held. Wrote (seen_of g.W.Write.contents c.args.writer.now) (seen_of g.W.Write.contents c.put.new.writer) c.from_residual.result held)
    c.as_slice.ensures
    (writes_err (seen_of g.W.Write.contents c.args.writer.now) (seen_of g.W.Write.contents c.put.new.writer) c.as_slice.result.now c.from_residual.result c.from_residual.ensures.0 (c.in_err-put.ensures.written, c.in_err-put.ensures.writes.write_failed refl))

pub returns-clause-written : goal.returns-clause-written
returns-clause-written g c =
    subst (λ held. Takes (seen_of g.W.Write.contents c.args.writer.now) (seen_of g.W.Write.contents c.put.new.writer) held)
    c.as_slice.ensures (c.in_ok-put.ensures.written, c.in_ok-put.ensures.writes.written refl)
