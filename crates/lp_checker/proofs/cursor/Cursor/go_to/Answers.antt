use Rattle.std.proofs.Common.{ap, arith}
use Rattle.std.proofs.lemmas.Grind.{common_steps}
use Rattle.lp_checker.specs.inside.Cursors.{Range}
use Rattle.lp_checker.proofs.cursor.Cursor.go_to.Goals as goal

pub step-requires : goal.step-requires
step-requires g c = omega (arith, c.requires, c.loop-place.invariant.moment, ap (λ (range : Range). range.end) c.loop-place.invariant.range, c.loop-place-test.true)

pub loop-place-preserved : goal.loop-place-preserved
loop-place-preserved g c = grind (arith, common_steps)
