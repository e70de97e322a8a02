use Rattle.std.proofs.Common.{ℕ, [], Option, Some, sym, ap, ap₂, ◌∙◌}
use Rattle.lp_stack.specs.declared.view.Class.TheVariants.{Normal}
use Rattle.lp_stack.specs.declared.view.Mode.TheVariants.{Kernel}
use Rattle.lp_definitions.specs.Tasks.{on_live}
use Rattle.lp_definitions.specs.Leg.{LegTask}
use Rattle.lp_machine.specs.Table.{Engine}
use Rattle.lp_tasks.proofs.TableLemmas.{live_from_slot}
use Rattle.lp_machine.proofs.Accept.{fork-live}
use Rattle.lp_transition.proofs.Weighing.{born-child}
use Rattle.lp_transition.specs.inside.Invariant.{told_scan}
use Rattle.lp_transition.proofs.engine.Core.child.Goals as goal

pub returns : goal.returns
returns g c =
    let i = c.self.inside in
    let accepted = rw (← c.self.view_is) at c.requires in
    let e : Engine = record { number = i.events; from = i.from.0; target = i.target.0; patches = i.patches; table = i.tasks; blames = i.blames; last_scan = told_scan i.unchanged } in
    let live = fork-live g.M.Consistency.rules e c.args.parent c.args.child c.args.how accepted in
    let group = c.child_group-group.ensures ∙ ap (λ k. g.M.Consistency.rules.child_group k c.args.child.0 c.args.how) (c.group_of.ensures live.task live.there) in
    let level = c.level_of-level.ensures ∙ ap (on_live 0 (λ x. x.level)) (live_from_slot i.tasks c.args.parent.0 live.task live.there) in
    rw (← c.self.view_is)
    (sym (ap {A = LegTask} {B = Option LegTask} Some (c.new.ensures ∙ ap₂ {A = ℕ} {B = ℕ} {C = LegTask} (λ k l. record { class = Normal; mode = Kernel; group = k; level = l; frames = [] }) group level)
    ∙ born-child g.M.Consistency.rules e c.args.parent c.args.child c.args.how live.task accepted live.there))
