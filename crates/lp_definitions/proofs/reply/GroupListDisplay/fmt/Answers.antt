use Rattle.std.proofs.Common.{rules, refl}
use Rattle.std.proofs.lemmas.Grind.{put_two}
use Rattle.lp_definitions.proofs.Printed.{all_groups, one_more}
use Rattle.lp_definitions.proofs.reply.GroupListDisplay.fmt.Goals as goal

pub loop-group-preserved : goal.loop-group-preserved
loop-group-preserved g c =
    λ plain. let so_far = c.loop-group.invariant plain in put_two _ _ _ _ _ _ _ so_far (c.in_ok-write-2.ensures.writes so_far.plain refl) (one_more _ _ _ c.loop-group-test.true)

pub returns-clause-writes : goal.returns-clause-writes
returns-clause-writes g c =
    λ plain ok. let one = c.in_ok-write.ensures.writes plain refl in put_two _ _ _ _ _ _ _ one (c.loop-group.invariant one.plain) (all_groups _ _ _ _ (search rules) c.loop-group-test.false)
