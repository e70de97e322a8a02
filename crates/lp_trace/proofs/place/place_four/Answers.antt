use Rattle.std.proofs.Common.{arith}
use Rattle.itoa.proofs.Decimal.{decimal_pair}
use Rattle.lp_trace.proofs.Digits.{digits_put}
use Rattle.lp_trace.proofs.place.place_four.Goals as goal

pub returns-clause-placed : goal.returns-clause-placed
returns-clause-placed c =
    digits_put _ _ _ _ _ _ c.place_pair.ensures.placed c.place_two-end.ensures.placed (decimal_pair c.args.number c.if-number-lt100.false (omega arith))
