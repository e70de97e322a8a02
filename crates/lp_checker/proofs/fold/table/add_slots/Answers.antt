use Rattle.std.proofs.Common.{◌<◌, length, ◌∙◌, arith}
use Rattle.lp_checker.proofs.Tables.{push-all}
use Rattle.lp_checker.proofs.fold.table.add_slots.Goals as goal

pub loop-slots-preserved : goal.loop-slots-preserved
loop-slots-preserved c =
    let h : length c.loop-slots.slots.items < 65536 = omega (arith, c.loop-slots-test.true, c.len.ensures, c.requires.within) in
    record {
      few = omega (arith, c.in_ok-push.ensures.len, h);
      same = rw c.in_ok-push.ensures.items (push-all c.loop-slots.slots.items h ∙ c.loop-slots.invariant.same);
    }
