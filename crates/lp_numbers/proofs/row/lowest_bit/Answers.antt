use Rattle.lp_numbers.proofs.Bits.{lowest-trailing_zeros}
use Rattle.lp_numbers.proofs.row.lowest_bit.Goals as goal

pub returns-clause-lowest : goal.returns-clause-lowest
returns-clause-lowest c = lowest-trailing_zeros c.args.word c.requires c.ranges.word.fits
