use Rattle.std.proofs.Common.{arith, ap}
use Rattle.std.specs.Str.Parse.{digits_value}
use Rattle.std.proofs.lemmas.List.{take_all}
use Rattle.lp_text.proofs.Numbers.{value_more, value_small}
use Rattle.lp_text.proofs.number.value.Goals as goal

pub overflow_mul-number : goal.overflow_mul-number
overflow_mul-number c =
    omega (arith, value_more c.args.word.now c.loop-byte.byte-index c.loop-byte.number c.requires.digits c.requires.few c.loop-byte-test.true c.loop-byte.invariant)

pub overflow_add-number : goal.overflow_add-number
overflow_add-number c =
    omega (arith, value_more c.args.word.now c.loop-byte.byte-index c.loop-byte.number c.requires.digits c.requires.few c.loop-byte-test.true c.loop-byte.invariant)

pub loop-byte-preserved : goal.loop-byte-preserved
loop-byte-preserved c =
    rw c.from.ensures (value_more c.args.word.now c.loop-byte.byte-index c.loop-byte.number c.requires.digits c.requires.few c.loop-byte-test.true c.loop-byte.invariant).0

pub returns-clause-small : goal.returns-clause-small
returns-clause-small c =
    let whole = c.loop-byte.invariant in
    omega (arith, value_small c.args.word.now c.requires.digits c.requires.few, ap (digits_value 10) (take_all c.loop-byte.byte-index c.args.word.now c.loop-byte-test.false))
