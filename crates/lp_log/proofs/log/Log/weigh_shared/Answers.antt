use Rattle.std.proofs.Common.{arith}
use Rattle.std.proofs.lemmas.Grind.{common_steps}
use Rattle.lp_log.proofs.log.Log.weigh_shared.Goals as goal

pub returns-in-Some-scan_kind-clause-event : goal.returns-in-Some-scan_kind-clause-event
returns-in-Some-scan_kind-clause-event g c = grind (arith, common_steps)
