use Rattle.lp_compare.proofs.Births.{next_most}
use Rattle.lp_compare.proofs.first_end.most_births.Goals as goal

pub loop-place-preserved : goal.loop-place-preserved
loop-place-preserved c =
    next_most c.args.certs.now c.loop-place.place c.lines.result c.loop-place.most c.births.result c.max-most.result _ c.births.ensures c.max-most.ensures c.loop-place.invariant c.lines.ensures
