use Rattle.lp_numbers.proofs.Bits.{word_has-set, word_has-without}
use Rattle.lp_numbers.proofs.row.with_bit.Goals as goal

pub returns-then-is_set : goal.returns-then-is_set
returns-then-is_set c = λ k. rw c.if-is_set.true (word_has-set c.args.word c.args.bit k c.requires)

pub returns-else-is_set : goal.returns-else-is_set
returns-else-is_set c = λ k. rw c.if-is_set.false (word_has-without c.args.word c.args.bit k c.ranges.word.fits c.requires)
