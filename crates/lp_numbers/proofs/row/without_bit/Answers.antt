use Rattle.lp_numbers.proofs.Bits.{word_has-without, without-less}
use Rattle.lp_numbers.proofs.row.without_bit.Goals as goal

pub returns-clause-bits : goal.returns-clause-bits
returns-clause-bits c = λ k. word_has-without c.args.word c.args.bit k c.ranges.word.fits c.requires.within

pub returns-clause-fewer : goal.returns-clause-fewer
returns-clause-fewer c = without-less c.args.word c.args.bit c.requires.within c.requires.has
