use Rattle.std.proofs.Common.{ap, ◌∙◌}
use Rattle.lp_patch.specs.Patches.{Patches}
use Rattle.lp_definitions.specs.Leg.{has_member}
use Rattle.lp_machine.specs.Machine.{LegTasks, outlines_of}
use Rattle.lp_machine.specs.Table.{bounds_of, leg_tasks}
use Rattle.lp_checker.specs.Folds.{leg_with}
use Rattle.lp_checker.proofs.Folding.{outlines_are}
use Rattle.lp_checker.proofs.cursor.Cursor.has_member.Goals as goal

pub returns : goal.returns
returns g c =
    let own = c.self.inside in
    let at = c.self.invariant.at in
    let leg = leg_with own.opening.now own.events.now in
    rw (← c.self.view_is)
    ((rw c.deref.ensures at c.has_member.ensures)
    ∙ ap (λ (p : Patches). has_member (bounds_of p) (outlines_of (leg_tasks own.fold.value.tasks)) c.args.group.0) at.patches
    ∙ ap (λ (s : LegTasks). has_member leg.bounds (outlines_of s) c.args.group.0) at.tasks
    ∙ ap (λ o. has_member leg.bounds o c.args.group.0) (outlines_are g.M.Consistency.rules leg g.met.M.Consistency.lawful at.sound.sound own.moment))
