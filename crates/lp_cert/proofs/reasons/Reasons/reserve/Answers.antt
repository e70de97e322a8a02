use Rattle.std.proofs.Common.{arith}
use Rattle.std.proofs.lemmas.Grind.{common_steps}
use Rattle.lp_cert.proofs.reasons.Reasons.reserve.Goals as goal

pub returns-clause-scan_room : goal.returns-clause-scan_room
returns-clause-scan_room c = grind (arith, common_steps)
