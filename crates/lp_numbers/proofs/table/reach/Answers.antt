use Rattle.std.proofs.Common.{arith}
use Rattle.lp_numbers.proofs.Tables.{same_more}
use Rattle.lp_numbers.proofs.table.reach.Goals as goal

pub loop-blank-preserved : goal.loop-blank-preserved
loop-blank-preserved g c = record {
  few = grind arith;
  room = grind arith;
  same = rw c.push_reserved.ensures.items (same_more c.args.blank c.loop-blank.places.items c.args.places.now.items c.loop-blank.invariant.same);
}
