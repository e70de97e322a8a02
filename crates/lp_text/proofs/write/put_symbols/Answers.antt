use Rattle.lp_text.specs.Traces.{sym_words}
use Rattle.lp_text.proofs.Writing.{writes_err, left_prefix, left_next, lines_at}
use Rattle.lp_text.proofs.write.put_symbols.Goals as goal
use Rattle.lp_text.specs.inside.Writing.{seen_of}
use Rattle.std.proofs.Common.{[], arith}

pub returns-in_err-put_symbol : goal.returns-in_err-put_symbol
returns-in_err-put_symbol g c =
    writes_err _ _ _ c.from_residual.result c.from_residual.ensures.0 (left_prefix _ (seen_of g.W.Write.contents c.loop-i.writer) _ _ _ _ _ (lines_at sym_words c.args.symbols.now c.loop-i.i [] (omega (arith, c.loop-i-test.true))) c.loop-i.invariant c.in_err-put_symbol.ensures)

pub loop-i-preserved : goal.loop-i-preserved
loop-i-preserved g c =
    left_next _ (seen_of g.W.Write.contents c.loop-i.writer) _ _ _ _ _ (lines_at sym_words c.args.symbols.now c.loop-i.i [] (omega (arith, c.loop-i-test.true))) c.loop-i.invariant c.in_ok-put_symbol.ensures
