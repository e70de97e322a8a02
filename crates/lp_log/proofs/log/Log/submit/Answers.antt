use Rattle.std.proofs.Common.{arith}
use Rattle.std.proofs.lemmas.Grind.{common_steps}
use Rattle.lp_log.proofs.log.Log.submit.Goals as goal

pub returns-then-is_quiet_now-clause-full : goal.returns-then-is_quiet_now-clause-full
returns-then-is_quiet_now-clause-full g c = grind (arith, common_steps)

pub returns-then-is_quiet_now-clause-not_yours : goal.returns-then-is_quiet_now-clause-not_yours
returns-then-is_quiet_now-clause-not_yours g c = grind (arith, common_steps)

pub returns-then-is_quiet_now-clause-yours : goal.returns-then-is_quiet_now-clause-yours
returns-then-is_quiet_now-clause-yours g c = grind (arith, common_steps)
