use Rattle.std.proofs.Common.{arith}
use Rattle.lp_trace.proofs.Digits.{pair_put, pairs_at}
use Rattle.lp_trace.proofs.place.place_pair.Goals as goal

pub returns-clause-placed : goal.returns-clause-placed
returns-clause-placed c =
    let digits = pairs_at c.args.pair c.requires.small in
    rw (digits.0, digits.1) (pair_put c.args.text.now c.args.at _ _ (omega arith))
