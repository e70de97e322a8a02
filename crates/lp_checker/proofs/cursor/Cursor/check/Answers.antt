use Rattle.std.proofs.Common.{ℕ, ◌<◌, suc, pred, sym, ap, ◌∙◌, subst}
use Rattle.lp_patch.specs.Patches.{Patches}
use Rattle.lp_definitions.specs.Leg.{check_by, if_used}
use Rattle.lp_machine.specs.Machine.{LegTasks, outlines_of}
use Rattle.lp_machine.specs.Table.{bounds_of, leg_tasks}
use Rattle.lp_checker.specs.Folds.{leg_with}
use Rattle.lp_checker.specs.inside.Folds.{IsAt}
use Rattle.lp_checker.proofs.Folding.{now, check_is}
use Rattle.lp_checker.proofs.BirthLines.{suc_pred}
use Rattle.lp_checker.proofs.cursor.Cursor.check.Goals as goal

pub returns : goal.returns
returns g c =
    let model = g.M.Consistency.rules in
    let lawful = g.met.M.Consistency.lawful in
    let own = c.self.inside in
    let leg = leg_with own.opening.now own.events.now in
    let later : 0 < own.moment = rw (← c.self.view_is) at c.requires in
    let at = subst (λ (k : ℕ). IsAt model own.opening.now own.events.now k own.fold.value) (sym (suc_pred own.moment later)) c.self.invariant.at in
    let after_it : LegTasks = now model leg lawful at.sound.sound (suc (pred own.moment)) in
    rw (← c.self.view_is)
    ((rw c.deref.ensures at c.check.ensures)
    ∙ ap (λ (p : Patches). if_used model.uses (check_by (bounds_of p) (outlines_of (leg_tasks own.fold.value.tasks)) own.event c.args.group.0)) at.patches
    ∙ ap (λ (s : LegTasks). if_used model.uses (check_by leg.bounds (outlines_of s) own.event c.args.group.0)) at.tasks
    ∙ ap (λ o. if_used model.uses (check_by leg.bounds (outlines_of after_it) o c.args.group.0)) (c.self.invariant.event later)
    ∙ check_is model leg lawful at.sound.sound (pred own.moment) c.args.group.0)
