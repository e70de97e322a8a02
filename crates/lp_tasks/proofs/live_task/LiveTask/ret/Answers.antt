use Rattle.std.proofs.Common.{arith}
use Rattle.std.proofs.lemmas.Grind.{common_steps}
use Rattle.lp_tasks.proofs.live_task.LiveTask.ret.Goals as goal

pub returns-then-pop-clause-recorded : goal.returns-then-pop-clause-recorded
returns-then-pop-clause-recorded c = grind (arith, common_steps)

pub returns-clause-others : goal.returns-clause-others
returns-clause-others c = grind (arith, common_steps)

pub returns-clause-recorded : goal.returns-clause-recorded
returns-clause-recorded c = grind (arith, common_steps)
