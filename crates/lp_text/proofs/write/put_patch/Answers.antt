use Rattle.lp_text.specs.Traces.{patch_words, name}
use Rattle.lp_text.proofs.Writing.{writes_err, left_prefix, left_next, lines_at, known_at}
use Rattle.lp_text.proofs.write.put_patch.Goals as goal
use Rattle.lp_text.specs.inside.Writing.{seen_of}
use Rattle.std.proofs.Common.{length, arith}
use Rattle.std.proofs.lemmas.Grind.{common_steps}

pub put_function-requires : goal.put_function-requires
put_function-requires g c =
    known_at (length c.args.symbols.now) c.args.patch.now c.loop-func.func-index _ c.requires c.loop-func-test.true

pub returns-in_err-put_function : goal.returns-in_err-put_function
returns-in_err-put_function g c =
    writes_err _ _ _ c.from_residual.result c.from_residual.ensures.0 (left_prefix _ (seen_of g.W.Write.contents c.loop-func.writer) _ _ _ _ _ (lines_at (λ func. patch_words c.args.form c.args.number (name c.args.symbols.now func)) c.args.patch.now c.loop-func.func-index _ c.loop-func-test.true) c.loop-func.invariant c.in_err-put_function.ensures)

pub loop-func-preserved : goal.loop-func-preserved
loop-func-preserved g c =
    left_next _ (seen_of g.W.Write.contents c.loop-func.writer) _ _ _ _ _ (lines_at (λ func. patch_words c.args.form c.args.number (name c.args.symbols.now func)) c.args.patch.now c.loop-func.func-index _ c.loop-func-test.true) c.loop-func.invariant c.in_ok-put_function.ensures

pub returns : goal.returns
returns g c = grind (arith, common_steps)
