use Rattle.std.proofs.Common.{rules}
use Rattle.lp_stack.proofs.task_stack.TaskStack.pop.Goals as goal

pub returns-clause-value : goal.returns-clause-value
returns-clause-value c = search rules

pub returns-clause-rest : goal.returns-clause-rest
returns-clause-rest c = search rules
