use Rattle.std.proofs.Common.{length}
use Rattle.lp_replay.proofs.Starting.{built}
use Rattle.lp_replay.proofs.replays.start.set.Goals as goal

pub returns-in-Ok : goal.returns-in-Ok
returns-in-Ok c = built c.in-Ok.set (length c.args.symbols.now) c.args.functions.now c.in-Ok.ensures.members c.in-Ok.ensures.symbols
