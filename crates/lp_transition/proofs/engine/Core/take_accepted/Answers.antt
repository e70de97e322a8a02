use Rattle.std.proofs.Common.{arith}
use Rattle.std.proofs.lemmas.Grind.{common_steps}
use Rattle.lp_transition.proofs.engine.Core.take_accepted.Goals as goal

pub returns-in-Idle-clause-last_scan : goal.returns-in-Idle-clause-last_scan
returns-in-Idle-clause-last_scan c = grind (arith, common_steps)

pub returns-in-Resched-clause-last_scan : goal.returns-in-Resched-clause-last_scan
returns-in-Resched-clause-last_scan c = grind (arith, common_steps)

pub returns-in-Exit-clause-last_scan : goal.returns-in-Exit-clause-last_scan
returns-in-Exit-clause-last_scan c = grind (arith, common_steps)

pub returns-in-Enter-clause-last_scan : goal.returns-in-Enter-clause-last_scan
returns-in-Enter-clause-last_scan c = grind (arith, common_steps)

pub returns-in-Wake-clause-last_scan : goal.returns-in-Wake-clause-last_scan
returns-in-Wake-clause-last_scan c = grind (arith, common_steps)

pub returns-in-Sleep-clause-last_scan : goal.returns-in-Sleep-clause-last_scan
returns-in-Sleep-clause-last_scan c = grind (arith, common_steps)

pub returns-in-Call-clause-last_scan : goal.returns-in-Call-clause-last_scan
returns-in-Call-clause-last_scan c = grind (arith, common_steps)

pub returns-in-Ret-clause-last_scan : goal.returns-in-Ret-clause-last_scan
returns-in-Ret-clause-last_scan c = grind (arith, common_steps)

pub returns-in-Fork-clause-last_scan : goal.returns-in-Fork-clause-last_scan
returns-in-Fork-clause-last_scan c = grind (arith, common_steps)

pub returns-in-Die-clause-last_scan : goal.returns-in-Die-clause-last_scan
returns-in-Die-clause-last_scan c = grind (arith, common_steps)
