use Rattle.std.proofs.Common.{arith}
use Rattle.std.proofs.lemmas.Grind.{common_steps}
use Rattle.lp_log.proofs.log.Log.apply_scan.Goals as goal

pub commit-requires : goal.commit-requires
commit-requires g c = grind (arith, common_steps)
