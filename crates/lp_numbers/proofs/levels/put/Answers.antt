use Rattle.lp_numbers.proofs.ThreeLevels.{three_level-put}
use Rattle.lp_numbers.proofs.levels.put.Goals as goal

pub returns-clause-levels : goal.returns-clause-levels
returns-clause-levels c = three_level-put c.args.words.now c.put.new.row c.args.summary.now c.put-2.new.row c.args.top c.with_bit.result c.args.at c.requires.levels c.put.auto.row c.put-2.auto.row c.put.ensures.others c.put-2.ensures.bits c.put-2.ensures.others c.with_bit.ensures
