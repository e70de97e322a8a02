use Rattle.std.proofs.Common.{arith}
use Rattle.std.proofs.lemmas.Grind.{common_steps}
use Rattle.lp_trace.proofs.page.Page.put.Goals as goal

pub returns-then-hold : goal.returns-then-hold
returns-then-hold c = grind (arith, common_steps)
