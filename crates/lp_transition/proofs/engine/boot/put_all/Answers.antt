use Rattle.std.proofs.Common.{◌≡◌, ◌<◌, ◌≤◌, get_or, length, All, subst, arith}
use Rattle.std.proofs.lemmas.List.{take_all, get_or_default}
use Rattle.lp_stack.specs.declared.number.TaskId.{TaskId}
use Rattle.lp_stack.specs.declared.view.Class.{Class}
use Rattle.lp_stack.specs.declared.view.Class.TheVariants.{Normal}
use Rattle.lp_definitions.specs.Leg.{LegTask}
use Rattle.lp_definitions.specs.Run.{at_boot, booted}
use Rattle.lp_machine.specs.Table.{leg_tasks}
use Rattle.lp_transition.proofs.BootLemmas.{none_put, next_free, one_put}
use Rattle.lp_transition.proofs.engine.boot.put_all.Goals as goal

pub loop-task-init : goal.loop-task-init
loop-task-init g c = none_put g.M.Consistency.rules _ c.requires.blank

pub loop-task-preserved : goal.loop-task-preserved
loop-task-preserved g c =
    let model = g.M.Consistency.rules in
    let boots = c.args.boots.now in
    let i = c.loop-task.task-index in
    let d : TaskId × Class = (record { 0 = 0 }, Normal) in
    let boot = get_or boots i d in
    let x : LegTask = c.at_boot.result in
    let h : i < length boots = omega arith in
    let at : get_or boots i boot ≡ boot = get_or_default boots i boot d h in
    let small : boot.0.0 < 65536 = omega (arith, c.at_boot.ensures.number) in
    let made : x ≡ at_boot model boot.0.0 boot.1 = c.at_boot.ensures.task in
    one_put model boots i boot c.loop-task.tasks c.put.new.self x c.requires.no_fault h at small made c.put.ensures c.loop-task.invariant

pub put-requires : goal.put-requires
put-requires g c =
    let boots = c.args.boots.now in
    let i = c.loop-task.task-index in
    let d : TaskId × Class = (record { 0 = 0 }, Normal) in
    let boot = get_or boots i d in
    let h : i < length boots = omega arith in
    let at : get_or boots i boot ≡ boot = get_or_default boots i boot d h in
    let next = next_free g.M.Consistency.rules boots i boot c.loop-task.tasks c.requires.no_fault h at c.loop-task.invariant in
    record { positive = next.0; free = next.1 }

pub returns-clause-live : goal.returns-clause-live
returns-clause-live g c =
    subst (λ boots. leg_tasks c.loop-task.tasks ≡ booted g.M.Consistency.rules boots) (take_all c.loop-task.task-index c.args.boots.now (omega arith)) c.loop-task.invariant.live

pub returns-clause-in_range : goal.returns-clause-in_range
returns-clause-in_range g c =
    subst (λ boots. All (λ (boot : TaskId × Class). (0 < boot.0.0) × (boot.0.0 ≤ 65535)) boots) (take_all c.loop-task.task-index c.args.boots.now (omega arith)) c.loop-task.invariant.in_range
