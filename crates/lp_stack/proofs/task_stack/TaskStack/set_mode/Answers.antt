use Rattle.std.proofs.Common.{ap}
use Rattle.lp_stack.specs.TaskView.{TaskView}
use Rattle.lp_stack.proofs.task_stack.TaskStack.set_mode.Goals as goal

pub returns : goal.returns
returns c = ap (λ (view : TaskView). record view { mode = c.args.mode }) c.self.view_is
