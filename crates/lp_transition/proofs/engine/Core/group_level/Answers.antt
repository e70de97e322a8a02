use Rattle.lp_machine.specs.Table.{Engine}
use Rattle.lp_transition.specs.inside.Invariant.{told_scan}
use Rattle.lp_transition.proofs.GroupLevels.{one_level, if_some}
use Rattle.lp_transition.proofs.engine.Core.group_level.Goals as goal

pub returns-clause-member : goal.returns-clause-member
returns-clause-member g c = rw (← c.self.view_is) (if_some c.level_of.result (c.in_ok-task.task.0, c.in_ok-task.ensures.some))

pub returns-clause-members : goal.returns-clause-members
returns-clause-members g c =
    let i = c.self.inside in
    let e : Engine = record { number = i.events; from = i.from.0; target = i.target.0; patches = i.patches; table = i.tasks; blames = i.blames; last_scan = told_scan i.unchanged } in
    rw (← c.self.view_is) (one_level e c.self.invariant.engine.sound c.args.group.0 c.in_ok-task.task.0 c.in_ok-task.ensures.some c.level_of.result c.level_of.ensures)
