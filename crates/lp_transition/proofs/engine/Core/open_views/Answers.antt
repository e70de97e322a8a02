use Rattle.std.proofs.Common.{arith}
use Rattle.std.proofs.lemmas.Grind.{common_steps}
use Rattle.lp_transition.proofs.engine.Core.open_views.Goals as goal

pub loop-view-preserved : goal.loop-view-preserved
loop-view-preserved c = grind (arith, common_steps)

pub returns : goal.returns
returns c = grind (arith, common_steps)
