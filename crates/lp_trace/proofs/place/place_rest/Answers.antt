use Rattle.std.proofs.Common.{arith, ◌∙◌}
use Rattle.lp_trace.proofs.Digits.{number_put, numbers_at}
use Rattle.lp_trace.proofs.place.place_rest.Goals as goal

pub loop-number-preserved : goal.loop-number-preserved
loop-number-preserved c = (
  c.place_spaced-end.ensures.size ∙ c.loop-number.invariant.0,
  omega (arith, c.place_spaced-end.ensures.near, c.loop-number.invariant.1),
  number_put _ _ _ _ _ _ c.place_spaced-end.ensures.placed (numbers_at c.args.numbers.now c.loop-number.number-index _ c.loop-number-test.true) c.loop-number.invariant.2,
)
