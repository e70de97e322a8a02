use Rattle.std.proofs.Common.{◌++◌, refl}
use Rattle.lp_text.proofs.Writing.{prefix_more, writes_err, writes_after, wrote}
use Rattle.lp_text.specs.inside.Writing.{seen_of}
use Rattle.lp_text.proofs.write.put_both.Goals as goal

pub returns-in_err-put : goal.returns-in_err-put
returns-in_err-put g c =
    writes_err _ _ _ c.from_residual.result c.from_residual.ensures.0 (prefix_more _ _ c.args.first.now c.args.second.now (c.args.first.now ++ c.args.second.now) refl (c.in_err-put.ensures.written, c.in_err-put.ensures.writes.write_failed refl))

pub returns : goal.returns
returns g c =
    writes_after _ (seen_of g.W.Write.contents c.put.new.writer) _ c.args.first.now c.args.second.now (c.args.first.now ++ c.args.second.now) c.put-2.result refl (c.in_ok-put.ensures.written, c.in_ok-put.ensures.writes.written refl) (wrote g.W.Write.contents c.put.new.writer c.put-2.new.writer _ c.put-2.result c.put-2.ensures.written c.put-2.ensures.writes)
