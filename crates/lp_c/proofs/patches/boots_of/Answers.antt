use Rattle.std.proofs.Common.{◌∙◌, map, ap, arith, sym}
use Rattle.std.proofs.lemmas.List.{take_all}
use Rattle.lp_c.specs.Codes.{boot_of}
use Rattle.lp_c.proofs.Listed.{map_more}
use Rattle.lp_c.proofs.patches.boots_of.Goals as goal

pub loop-task-preserved : goal.loop-task-preserved
loop-task-preserved c =
    rw (c.in_ok-push.ensures.items, c.loop-task.invariant, c.boot_of.ensures) (sym (map_more boot_of c.args.tasks.now c.loop-task.task-index _ (omega arith)))

pub returns : goal.returns
returns c = c.loop-task.invariant ∙ ap (map boot_of) (take_all c.loop-task.task-index c.args.tasks.now (omega arith))
