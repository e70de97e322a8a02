use Rattle.std.proofs.Common.{arith}
use Rattle.std.proofs.lemmas.Grind.{common_steps}
use Rattle.lp_cert.proofs.chains.Chains.jump_after.Goals as goal

pub returns-then-count-clause-tail : goal.returns-then-count-clause-tail
returns-then-count-clause-tail c = grind (arith, common_steps)
