use Rattle.std.proofs.Common.{arith}
use Rattle.std.proofs.lemmas.Grind.{common_steps}
use Rattle.lp_trace.proofs.report.legs.put_end_line.Goals as goal

pub returns-in-Single : goal.returns-in-Single
returns-in-Single c = grind (arith, common_steps)

pub returns-in-Stacked : goal.returns-in-Stacked
returns-in-Stacked c = grind (arith, common_steps)
