use Rattle.std.proofs.Common.{arith, ◌∙◌}
use Rattle.lp_trace.proofs.Digits.{ids_at, number_put}
use Rattle.lp_trace.proofs.place.place_groups.Goals as goal

pub loop-group-preserved : goal.loop-group-preserved
loop-group-preserved c = (
  c.place_id-end.ensures.size ∙ c.loop-group.invariant.0,
  omega (arith, c.place_id-end.ensures.near, c.loop-group.invariant.1),
  number_put _ _ _ _ _ _ c.place_id-end.ensures.placed (ids_at c.args.groups.now c.loop-group.group-index _ c.loop-group-test.true) c.loop-group.invariant.2,
)
