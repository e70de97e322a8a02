use Rattle.std.proofs.Common.{arith}
use Rattle.lp_trace.proofs.Digits.{id_near}
use Rattle.lp_trace.proofs.place.place_id.Goals as goal

pub returns-clause-near : goal.returns-clause-near
returns-clause-near c = id_near c.args.text.now c.place_spaced.new.text c.args.at c.place_spaced.result c.from.result (omega arith) (omega arith) (omega (arith, c.from.ensures)) c.place_spaced.ensures.placed
