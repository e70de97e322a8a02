use Rattle.std.proofs.Common.{arith}
use Rattle.std.proofs.lemmas.Grind.{common_steps}
use Rattle.lp_checker.proofs.marks.add_looks.Goals as goal

pub returns-in_ok-push-in-Hold-2 : goal.returns-in_ok-push-in-Hold-2
returns-in_ok-push-in-Hold-2 c = grind (arith, common_steps)

pub returns-in_ok-push-in-Busy : goal.returns-in_ok-push-in-Busy
returns-in_ok-push-in-Busy c = grind (arith, common_steps)
