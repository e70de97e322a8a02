use Rattle.std.proofs.Common.{length}
use Rattle.lp_tests.proofs.tests.engine.sets.Goals as goal

pub returns : goal.returns
returns c = (length c.args.symbols.now, c.loop-ids.invariant)
