use Rattle.lp_text.specs.Traces.{boot_words}
use Rattle.lp_text.proofs.Writing.{writes_err, left_prefix, left_next, lines_at}
use Rattle.lp_text.specs.inside.Writing.{seen_of}
use Rattle.lp_text.proofs.write.put_boots.Goals as goal

pub returns-in_err-put_boot : goal.returns-in_err-put_boot
returns-in_err-put_boot g c =
    writes_err _ _ _ c.from_residual.result c.from_residual.ensures.0 (left_prefix _ (seen_of g.W.Write.contents c.loop-task.writer) _ _ _ _ _ (lines_at boot_words c.args.boots.now c.loop-task.task-index _ c.loop-task-test.true) c.loop-task.invariant c.in_err-put_boot.ensures)

pub loop-task-preserved : goal.loop-task-preserved
loop-task-preserved g c =
    left_next _ (seen_of g.W.Write.contents c.loop-task.writer) _ _ _ _ _ (lines_at boot_words c.args.boots.now c.loop-task.task-index _ c.loop-task-test.true) c.loop-task.invariant c.in_ok-put_boot.ensures
