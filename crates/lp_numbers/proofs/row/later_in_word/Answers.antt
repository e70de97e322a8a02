use Rattle.std.proofs.Common.{◌+◌, sym, ◌∙◌}
use Rattle.std.proofs.lemmas.Nat.{shr-shr}
use Rattle.lp_numbers.proofs.Bits.{none-shifted, least-shifted-twice, bit-below}
use Rattle.lp_numbers.proofs.row.later_in_word.Goals as goal

pub returns-then-rest-eq0-clause-next : goal.returns-then-rest-eq0-clause-next
returns-then-rest-eq0-clause-next c = none-shifted c.args.word (c.args.bit + 1) (sym (shr-shr c.args.word c.args.bit 1) ∙ c.if-rest-eq0.true)

pub returns-clause-below : goal.returns-clause-below
returns-clause-below c = bit-below c.args.word _ c.ranges.word.fits (least-shifted-twice c.args.word c.args.bit c.lowest_bit.result c.lowest_bit.ensures.lowest).passes

pub returns-clause-next : goal.returns-clause-next
returns-clause-next c = least-shifted-twice c.args.word c.args.bit c.lowest_bit.result c.lowest_bit.ensures.lowest
