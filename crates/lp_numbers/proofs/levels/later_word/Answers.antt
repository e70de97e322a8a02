use Rattle.std.proofs.Common.{arith}
use Rattle.std.proofs.lemmas.Grind.{common_steps}
use Rattle.lp_numbers.specs.inside.Words.{word_has}
use Rattle.lp_numbers.proofs.ThreeLevels.{above-in_word, above-none, above-later}
use Rattle.lp_numbers.proofs.levels.later_word.Goals as goal

pub returns-in-Some : goal.returns-in-Some
returns-in-Some c = above-in_word c.args.summary.now c.args.place _ c.in-Some.ensures.below c.in-Some.ensures.next

pub returns-in_err-later : goal.returns-in_err-later
returns-in_err-later c = rw c.from_residual.ensures (above-none (word_has c.args.top) c.args.summary.now c.requires.high c.args.place c.in_default.ensures.next c.in_err-later.ensures.next)

pub returns : goal.returns
returns c = above-later (word_has c.args.top) c.args.summary.now c.requires.high c.args.place c.in_ok-later.later c.lowest_bit.result c.in_default.ensures.next c.in_ok-later.ensures.next c.lowest_bit.ensures.below c.lowest_bit.ensures.lowest

pub bounds-summary-later : goal.bounds-summary-later
bounds-summary-later c = grind (arith, common_steps)
