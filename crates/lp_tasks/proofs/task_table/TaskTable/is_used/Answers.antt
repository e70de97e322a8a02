use Rattle.std.proofs.Common.{◌∙◌}
use Rattle.lp_numbers.specs.Numbers.{has}
use Rattle.lp_machine.proofs.EngineLemmas.{used-fate}
use Rattle.lp_tasks.proofs.task_table.TaskTable.is_used.Goals as goal

pub returns-clause-fate : goal.returns-clause-fate
returns-clause-fate c = rw (← c.self.view_is) (c.contains.ensures.member ∙ used-fate _ (has c.self.inside.used c.args.task.0) (c.self.invariant.known c.args.task.0))
