use Rattle.std.proofs.Common.{arith}
use Rattle.std.proofs.lemmas.Grind.{common_steps}
use Rattle.lp_transition.proofs.OpeningLemmas.{opens_legs}
use Rattle.lp_transition.proofs.engine.Core.standing.Goals as goal

pub returns-clause-opens : goal.returns-clause-opens
returns-clause-opens g c = opens_legs g.M.Consistency.rules _

pub returns-clause-sound : goal.returns-clause-sound
returns-clause-sound g c = grind (arith, common_steps)
