use Rattle.std.proofs.Common.{length, arith}
use Rattle.std.proofs.lemmas.Grind.{common_steps}
use Rattle.lp_text.specs.Traces.{functions}
use Rattle.lp_replay.proofs.Starting.{share}
use Rattle.lp_replay.proofs.replays.start.stack.Goals as goal

pub new-requires : goal.new-requires
new-requires c = share (length c.symbols.result.now) (functions c.functions.result.now) c.in_ok-sets.sets.items c.in_ok-sets.ensures

pub unreachable-requires : goal.unreachable-requires
unreachable-requires c = grind (arith, common_steps)
