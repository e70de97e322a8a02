use Rattle.lp_numbers.proofs.Bits.{word_has-shr}
use Rattle.lp_numbers.proofs.row.has_bit.Goals as goal

pub returns : goal.returns
returns c = word_has-shr c.args.word c.args.bit
