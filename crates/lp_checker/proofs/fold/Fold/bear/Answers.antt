use Rattle.std.proofs.Common.{◌≡◌, ℕ, [], if◌then◌else◌, nat_eq, sym, ap, ap₂, ◌∙◌, arith}
use Rattle.std.proofs.lemmas.Grind.{common_steps}
use Rattle.std.proofs.lemmas.Result.{on_ok_weaker}
use Rattle.lp_stack.specs.declared.view.Class.TheVariants.{Normal}
use Rattle.lp_stack.specs.declared.view.Mode.TheVariants.{Kernel}
use Rattle.lp_definitions.specs.Tasks.{Fate, Live, map_live}
use Rattle.lp_definitions.specs.Leg.{LegTask}
use Rattle.lp_machine.specs.Machine.{bearing}
use Rattle.lp_machine.specs.Table.{leg_tasks}
use Rattle.lp_tasks.proofs.TableLemmas.{live_from_slot}
use Rattle.lp_checker.proofs.fold.Fold.bear.Goals as goal

pub returns-clause-tasks : goal.returns-clause-tasks
returns-clause-tasks g c =
    let grouping = g.M.Consistency.rules.child_group in
    let old = c.args.self.now.tasks in
    let x = c.in-Some.live.now in
    let live = live_from_slot old c.args.parent.0 x (sym c.in-Some.ensures.value) in
    let group : c.child_group-group.result.0 ≡ grouping x.group c.args.child.0 c.args.how = c.child_group-group.ensures ∙ ap (λ k. grouping k c.args.child.0 c.args.how) c.group.ensures in
    let born : c.new-born.result ≡ bearing grouping c.args.child.0 c.args.how x =
    c.new-born.ensures ∙ ap₂ {A = ℕ} {B = ℕ} {C = LegTask} (λ k l. record { class = Normal; mode = Kernel; group = k; level = l; frames = [] }) group c.level.ensures in
    let fate : Live c.new-born.result ≡ map_live (bearing grouping c.args.child.0 c.args.how) (leg_tasks old c.args.parent.0) = ap Live born ∙ sym (ap (map_live (bearing grouping c.args.child.0 c.args.how)) live) in
    on_ok_weaker c.put.result
    (λ (e : leg_tasks c.put.new.self ≡ (λ t. if nat_eq t c.args.child.0 then Live c.new-born.result else leg_tasks old t)). e ∙ ap (λ (f : Fate LegTask). λ (t : ℕ). if nat_eq t c.args.child.0 then f else leg_tasks old t) fate)
    c.put.ensures.put

pub put-requires-clause-positive : goal.put-requires-clause-positive
put-requires-clause-positive g c = grind (arith, common_steps)
