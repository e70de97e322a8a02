use Rattle.lp_checker.proofs.SpanLines.{keeps_more}
use Rattle.lp_checker.proofs.gaps.keep_greatest.Goals as goal

pub loop-number-preserved : goal.loop-number-preserved
loop-number-preserved c = keeps_more c.loop-number.number-index c.args.numbers.now c.loop-number.numbers c.loop-number.greatest c.max-greatest.result c.loop-number-test.true c.max-greatest.ensures c.loop-number.invariant
