use Rattle.std.proofs.Common.{◌≡◌, ℕ, Option, None, if◌then◌else◌, nat_eq, sym, ap, ap₂, ◌∙◌}
use Rattle.lp_model.specs.declared.check.CheckKind.{CheckKind}
use Rattle.lp_patch.specs.Patches.{Aim, Patches}
use Rattle.lp_definitions.specs.Leg.{after}
use Rattle.lp_definitions.specs.Tasks.{on_live}
use Rattle.lp_machine.specs.Machine.{LegTasks, view_of}
use Rattle.lp_machine.specs.Table.{leg_tasks}
use Rattle.lp_checker.specs.Folds.{leg_with}
use Rattle.lp_definitions.specs.Judgement.{blame_by}
use Rattle.lp_checker.proofs.Folding.{blame_is}
use Rattle.lp_checker.proofs.cursor.Cursor.blame.Goals as goal

pub returns : goal.returns
returns g c =
    let model = g.M.Consistency.rules in
    let own = c.self.inside in
    let fold = own.fold.value in
    let at = c.self.invariant.at in
    let kind = c.in_ok-kind.kind in
    let group = c.args.group.0 in
    let task = c.args.task.0 in
    let leg = leg_with own.opening.now own.events.now in
    let aim : ◌≡◌ {A = Aim} (record { patches = fold.patches; target = fold.target.0 }) leg.aim = ap₂ {A = Patches} {B = ℕ} {C = Aim} (λ p t. record { patches = p; target = t }) at.patches at.target in
    let checked = rw (← c.self.view_is) at c.check.ensures in
    rw (← c.self.view_is)
    ((rw c.deref.ensures at c.blame.ensures)
    ∙ ap (λ (aim : Aim). on_live None (λ x. if nat_eq x.group group then model.blame kind (view_of task x) aim else None) (leg_tasks fold.tasks task)) aim
    ∙ ap (λ (s : LegTasks). on_live None (λ x. if nat_eq x.group group then model.blame kind (view_of task x) leg.aim else None) (s task)) at.tasks
    ∙ blame_is model leg g.met.M.Consistency.lawful at.sound.sound kind group own.moment task
    ∙ ap (λ (o : Option CheckKind). blame_by model leg o group task (after model leg own.moment task)) (sym c.in_ok-kind.was ∙ checked))
