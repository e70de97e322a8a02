use Rattle.std.proofs.Common.{arith, sym}
use Rattle.std.proofs.lemmas.Grind.{common_steps}
use Rattle.std.proofs.lemmas.List.{map_more}
use Rattle.lp_stack.specs.TaskView.{seen}
use Rattle.lp_log.proofs.log.judged.copies_of.Goals as goal

pub loop-view-preserved : goal.loop-view-preserved
loop-view-preserved c =
    let next = map_more seen c.args.views.now c.loop-view.view-index c.view-item.result c.loop-view-test.true in
    let more = rw (← c.view-item.is) at next in
    rw (c.in_ok-push.ensures.items, c.loop-view.invariant, c.of.ensures) (sym more)

pub returns : goal.returns
returns c = grind (arith, common_steps)
