use Rattle.std.proofs.Common.{◌∙◌, arith}
use Rattle.lp_tasks.proofs.DeepLemmas.{same_places_more, count-more}
use Rattle.lp_tasks.proofs.deep_stacks.reach.Goals as goal

pub loop-places-preserved : goal.loop-places-preserved
loop-places-preserved c = record {
  few = grind arith;
  room = grind arith;
  same = rw c.push_reserved.ensures.items (same_places_more c.loop-places.places.items c.args.places.now.items c.loop-places.invariant.same);
  count = rw c.push_reserved.ensures.items (count-more c.loop-places.places.items ∙ c.loop-places.invariant.count);
}
