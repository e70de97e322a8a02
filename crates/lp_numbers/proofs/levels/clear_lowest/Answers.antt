use Rattle.std.proofs.Common.{arith}
use Rattle.std.proofs.lemmas.Grind.{common_steps}
use Rattle.lp_numbers.proofs.ThreeLevels.{three_level-cleared}
use Rattle.lp_numbers.proofs.levels.clear_lowest.Goals as goal

pub returns-clause-levels : goal.returns-clause-levels
returns-clause-levels c = three_level-cleared c.args.words.now c.clear_named.new.words c.args.summary.now c.args.top c.without_bit.result c.lowest_bit-place.result c.requires.levels c.clear_named.auto.words c.lowest_bit-place.ensures.lowest.passes c.clear_named.ensures.blank c.clear_named.ensures.others c.without_bit.ensures.bits

pub bounds-summary-place-2 : goal.bounds-summary-place-2
bounds-summary-place-2 c = grind (arith, common_steps)

pub bounds-summary-place : goal.bounds-summary-place
bounds-summary-place c = grind (arith, common_steps)
