use Rattle.std.proofs.Common.{rules}
use Rattle.lp_stack.proofs.task_stack.TaskStack.push.Goals as goal

pub returns-clause-ok : goal.returns-clause-ok
returns-clause-ok c = search rules
