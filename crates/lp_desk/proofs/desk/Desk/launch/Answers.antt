use Rattle.std.proofs.Common.{arith}
use Rattle.std.proofs.lemmas.Grind.{common_steps}
use Rattle.lp_desk.proofs.desk.Desk.launch.Goals as goal

pub returns-clause-crew : goal.returns-clause-crew
returns-clause-crew c = grind (arith, common_steps)

pub new-requires-clause-some : goal.new-requires-clause-some
new-requires-clause-some c = grind (arith, common_steps)

pub returns-then-workers-eq0-clause-refused : goal.returns-then-workers-eq0-clause-refused
returns-then-workers-eq0-clause-refused c = grind (arith, common_steps)

pub returns-clause-count : goal.returns-clause-count
returns-clause-count c = grind (arith, common_steps)

pub returns-then-workers-eq0-clause-crew : goal.returns-then-workers-eq0-clause-crew
returns-then-workers-eq0-clause-crew c = grind (arith, common_steps)
