use Rattle.std.proofs.Common.{arith}
use Rattle.std.proofs.lemmas.Grind.{common_steps}
use Rattle.lp_threads.proofs.scripts.add.Goals as goal

pub returns-in_err-push-in-Some-clause-wide : goal.returns-in_err-push-in-Some-clause-wide
returns-in_err-push-in-Some-clause-wide c = grind (arith, common_steps)

pub returns-in_ok-push-in-Some-clause-wide : goal.returns-in_ok-push-in-Some-clause-wide
returns-in_ok-push-in-Some-clause-wide c = grind (arith, common_steps)
