use Rattle.std.proofs.Common.{◌≡◌, subst, arith}
use Rattle.std.proofs.lemmas.Grind.{common_steps}
use Rattle.lp_machine.specs.Table.{leg_tasks}
use Rattle.lp_checker.proofs.OpeningTasks.{IsPutBelow, put_more, put_all}
use Rattle.lp_checker.proofs.fold.Fold.of.Goals as goal

pub loop-number-preserved : goal.loop-number-preserved
loop-number-preserved c = record {
  opening = c.loop-number.invariant.opening;
  below = put_more c.loop-number.number (leg_tasks c.loop-number.tasks) (leg_tasks c.put_from.new.tasks) (leg_tasks c.args.opening.now.table) c.loop-number.invariant.below c.in_ok-put_from.ensures;
}

pub returns-clause-tasks : goal.returns-clause-tasks
returns-clause-tasks c =
    let done : c.loop-number.number ≡ 65536 = omega (arith, c.loop-number-test.false, c.loop-number.auto.number-end) in
    put_all c.args.opening.now.table (leg_tasks c.loop-number.tasks) c.loop-number.invariant.opening.wide (subst (λ n. IsPutBelow n (leg_tasks c.loop-number.tasks) (leg_tasks c.args.opening.now.table)) done c.loop-number.invariant.below)

pub loop-number-init : goal.loop-number-init
loop-number-init c = grind (arith, common_steps)
