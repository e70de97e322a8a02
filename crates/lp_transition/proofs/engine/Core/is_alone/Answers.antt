use Rattle.std.proofs.Common.{◌≡◌, Some, refl, ap, ◌∙◌}
use Rattle.lp_definitions.specs.Leg.{LegTask}
use Rattle.lp_machine.specs.Table.{Engine, slot}
use Rattle.lp_tasks.proofs.MemberLemmas.{lone-told}
use Rattle.lp_tasks.proofs.TableLemmas.{slot-zero}
use Rattle.lp_transition.specs.inside.Invariant.{told_scan}
use Rattle.lp_transition.proofs.engine.Core.is_alone.Goals as goal

pub returns-in-Some-clause-alone : goal.returns-in-Some-clause-alone
returns-in-Some-clause-alone g c = λ x there.
    let i = c.self.inside in
    let at : slot i.tasks c.args.task.0 ≡ Some x = ap (λ e. slot e.table c.args.task.0) c.self.view_is ∙ there in
    let is : c.in-Some.live ≡ x = let both = c.in-Some.ensures.value ∙ at in cc in
    let group : c.group.result.0 ≡ x.group = c.group.ensures ∙ ap (λ (y : LegTask). y.group) is in
    let e : Engine = record { number = i.events; from = i.from.0; target = i.target.0; patches = i.patches; table = i.tasks; blames = i.blames; last_scan = told_scan i.unchanged } in
    rw (← c.self.view_is)
    (lone-told e.table e.patches c.self.invariant.engine.wide (slot-zero e c.self.invariant.engine.sound) x.group c.args.task.0 (record { task = x; there = at; grouped = refl }) _ (rw group at c.is_alone.ensures))
