use Rattle.std.proofs.Common.{rules, arith}
use Rattle.std.proofs.lemmas.Grind.{common_steps}
use Rattle.lp_log.proofs.log.Log.apply_judged.Goals as goal

pub returns-clause-journal : goal.returns-clause-journal
returns-clause-journal g c = search rules

pub commit-requires : goal.commit-requires
commit-requires g c = grind (arith, common_steps)
