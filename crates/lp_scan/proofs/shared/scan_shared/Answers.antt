use Rattle.std.proofs.Common.{arith}
use Rattle.std.proofs.lemmas.Grind.{common_steps}
use Rattle.lp_scan.proofs.shared.scan_shared.Goals as goal

pub joined-requires-clause-pieces : goal.joined-requires-clause-pieces
joined-requires-clause-pieces c = grind (arith, common_steps)
