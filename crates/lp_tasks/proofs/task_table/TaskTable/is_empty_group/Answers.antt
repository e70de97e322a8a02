use Rattle.std.proofs.Common.{arith}
use Rattle.std.proofs.lemmas.Grind.{common_steps}
use Rattle.lp_tasks.proofs.task_table.TaskTable.is_empty_group.Goals as goal

pub returns : goal.returns
returns c = grind (arith, common_steps)
