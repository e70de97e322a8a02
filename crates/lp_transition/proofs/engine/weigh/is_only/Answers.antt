use Rattle.std.proofs.Common.{arith}
use Rattle.std.proofs.lemmas.Grind.{common_steps}
use Rattle.lp_transition.proofs.engine.weigh.is_only.Goals as goal

pub returns-then-number-eq65535 : goal.returns-then-number-eq65535
returns-then-number-eq65535 c = grind (arith, common_steps)
