use Rattle.std.proofs.Common.{Some, None, ap, ◌∙◌}
use Rattle.lp_definitions.specs.Tasks.{on_live}
use Rattle.lp_machine.specs.Machine.{LegTasks}
use Rattle.lp_checker.specs.Folds.{leg_with}
use Rattle.lp_checker.proofs.Folding.{group_is}
use Rattle.lp_checker.proofs.cursor.Cursor.group_of.Goals as goal

pub returns : goal.returns
returns g c =
    let own = c.self.inside in
    let at = c.self.invariant.at in
    rw (← c.self.view_is)
    ((rw c.deref.ensures at c.group_of.ensures)
    ∙ ap (λ (s : LegTasks). on_live None (λ x. Some x.group) (s c.args.task.0)) at.tasks
    ∙ group_is g.M.Consistency.rules (leg_with own.opening.now own.events.now) g.met.M.Consistency.lawful at.sound.sound own.moment c.args.task.0)
