use Rattle.std.proofs.Common.{ap, ◌∙◌}
use mathlib.Core.Path.{fun_ext}
use Rattle.lp_tasks.specs.Passing.{passing}
use Rattle.lp_tasks.proofs.AscendingLemmas.{members-passing}
use Rattle.lp_tasks.proofs.task_table.TaskTable.live.Goals as goal

pub returns-clause-numbers : goal.returns-clause-numbers
returns-clause-numbers c =
    let same = fun_ext c.self.invariant.living in
    rw (← c.self.view_is) (c.iter.ensures ∙ members-passing c.self.inside.live ∙ ap (passing 0 65536) same)
