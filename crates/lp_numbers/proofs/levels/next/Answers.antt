use Rattle.std.proofs.Common.{arith}
use Rattle.std.proofs.lemmas.Grind.{common_steps}
use Rattle.lp_numbers.specs.inside.Words.{row_has}
use Rattle.lp_numbers.proofs.ThreeLevels.{next-none, next-later}
use Rattle.lp_numbers.proofs.levels.next.Goals as goal

pub returns-in_err-place : goal.returns-in_err-place
returns-in_err-place c = rw c.from_residual.ensures (next-none (row_has c.args.summary.now) c.args.words.now c.requires.levels.right c.args.from c.in_default.ensures.next c.in_err-place.ensures)

pub returns : goal.returns
returns c = next-later (row_has c.args.summary.now) c.args.words.now c.requires.levels.right c.args.from c.in_ok-place.place c.lowest_bit.result c.in_default.ensures.next c.in_ok-place.ensures c.lowest_bit.ensures.below c.lowest_bit.ensures.lowest

pub bounds-words-place : goal.bounds-words-place
bounds-words-place c = grind (arith, common_steps)

pub overflow_add-result-2 : goal.overflow_add-result-2
overflow_add-result-2 c = grind (arith, common_steps)

pub offset_bounds-words-place : goal.offset_bounds-words-place
offset_bounds-words-place c = grind (arith, common_steps)

pub overflow_mul-result-2 : goal.overflow_mul-result-2
overflow_mul-result-2 c = grind (arith, common_steps)
