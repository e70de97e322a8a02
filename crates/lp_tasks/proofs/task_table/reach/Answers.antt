use Rattle.std.proofs.Common.{◌<◌, length, ◌∙◌, arith}
use Rattle.lp_tasks.proofs.SlotLemmas.{padded-more}
use Rattle.lp_tasks.proofs.task_table.reach.Goals as goal

pub loop-slots-preserved : goal.loop-slots-preserved
loop-slots-preserved c =
    let more : length c.loop-slots.slots.items < 65536 = grind arith in
    record {
      few = grind arith;
      room = grind arith;
      same = rw c.push_reserved.ensures.items (padded-more c.loop-slots.slots.items more ∙ c.loop-slots.invariant.same);
    }
