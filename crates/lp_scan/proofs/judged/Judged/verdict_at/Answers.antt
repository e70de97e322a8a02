use Rattle.std.proofs.Common.{arith}
use Rattle.std.proofs.lemmas.Grind.{common_steps}
use Rattle.lp_scan.proofs.judged.Judged.verdict_at.Goals as goal

pub returns-in-Some : goal.returns-in-Some
returns-in-Some g c = grind (arith, common_steps)

pub index-requires : goal.index-requires
index-requires g c = grind (arith, common_steps)
