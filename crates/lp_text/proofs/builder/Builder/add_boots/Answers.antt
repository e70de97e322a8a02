use Rattle.std.proofs.Common.{refl}
use Rattle.lp_text.specs.Traces.{boot_words}
use Rattle.lp_text.proofs.Goes.{passed_on, goes_on, goes_err, goes_end, boots_next}
use Rattle.lp_text.proofs.builder.Builder.add_boots.Goals as goal

pub returns-in_err-add_boot-clause-gives : goal.returns-in_err-add_boot-clause-gives
returns-in_err-add_boot-clause-gives c =
    passed_on _ c.from_residual.result c.in_err-add_boot.field-0.0 _ c.from_residual.ensures.1 (goes_err boot_words c.args.self.now.place c.args.self.now.parser c.args.boots.now c.loop-task.self.place c.loop-task.self.size c.loop-task.self.parser c.loop-task.task-index c.loop-task.invariant.0 c.in_err-add_boot.field-0.0 _ c.loop-task-test.true c.in_err-add_boot.ensures.gives)

pub loop-task-preserved : goal.loop-task-preserved
loop-task-preserved c = (
  goes_on boot_words c.args.self.now.place c.args.self.now.parser c.args.boots.now c.loop-task.self.place c.loop-task.self.size c.loop-task.self.parser c.loop-task.task-index c.loop-task.invariant.0 c.add_boot.new.self.place c.add_boot.new.self.size c.add_boot.new.self.parser _ c.loop-task-test.true c.in_ok-add_boot.ensures.built c.in_ok-add_boot.ensures.gives,
  boots_next c.args.self.now.parser c.loop-task.self.parser c.add_boot.new.self.parser c.args.boots.now c.loop-task.task-index _ _ c.loop-task-test.true refl c.loop-task.invariant.1 c.in_ok-add_boot.ensures.added,
)

pub returns-clause-gives : goal.returns-clause-gives
returns-clause-gives c = goes_end boot_words c.args.self.now.place c.args.self.now.parser c.args.boots.now c.loop-task.self.place c.loop-task.self.size c.loop-task.self.parser c.loop-task.task-index c.loop-task.invariant.0 c.loop-task-test.false
