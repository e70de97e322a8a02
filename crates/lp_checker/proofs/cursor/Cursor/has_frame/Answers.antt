use Rattle.std.proofs.Common.{false, nat_eq, ap, ◌∙◌, arith}
use Rattle.std.proofs.lemmas.Grind.{common_steps}
use Rattle.std.specs.List.{list_any}
use Rattle.lp_definitions.specs.Tasks.{on_live}
use Rattle.lp_machine.specs.Machine.{LegTasks}
use Rattle.lp_checker.specs.Folds.{leg_with}
use Rattle.lp_checker.proofs.Folding.{frame_is}
use Rattle.lp_checker.proofs.cursor.Cursor.has_frame.Goals as goal

pub returns-clause-value : goal.returns-clause-value
returns-clause-value g c =
    let own = c.self.inside in
    let at = c.self.invariant.at in
    rw (← c.self.view_is)
    ((rw c.deref.ensures at c.has_frame.ensures)
    ∙ ap (λ (s : LegTasks). on_live false (λ x. list_any (λ frame. nat_eq frame.serial c.args.serial) x.frames) (s c.args.task.0)) at.tasks
    ∙ frame_is g.M.Consistency.rules (leg_with own.opening.now own.events.now) g.met.M.Consistency.lawful at.sound.sound own.moment c.args.task.0 c.args.serial)

pub returns-clause-sound : goal.returns-clause-sound
returns-clause-sound g c = grind (arith, common_steps)
