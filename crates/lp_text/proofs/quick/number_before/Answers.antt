use Rattle.std.proofs.Common.{◌≡◌, ◌<◌, get_or, length, true, sym, ◌∙◌, arith}
use Rattle.std.specs.Char.{is_ascii_digit}
use Rattle.lp_text.proofs.QuickLines.{digits_more, number_few, number_more, number_whole}
use Rattle.lp_text.proofs.quick.number_before.Goals as goal

pub returns-then-not-is_ascii_digit-clause-small : goal.returns-then-not-is_ascii_digit-clause-small
returns-then-not-is_ascii_digit-clause-small c =
    number_few c.args.text.now c.loop-i.i c.loop-i.number (omega (arith, c.loop-i.invariant.0)) (omega arith) c.loop-i.invariant.1 c.loop-i.invariant.2

pub returns-then-not-is_ascii_digit-clause-whole : goal.returns-then-not-is_ascii_digit-clause-whole
returns-then-not-is_ascii_digit-clause-whole c =
    number_whole c.args.text.now c.loop-i.i c.loop-i.number (omega arith) (omega (arith, c.loop-i.invariant.0)) (omega arith) c.loop-i.invariant.1 c.if-text-eq48.false c.loop-i.invariant.2

pub overflow_mul-number : goal.overflow_mul-number
overflow_mul-number c =
    let digit : is_ascii_digit (get_or c.args.text.now c.loop-i.i 0) ≡ true = sym c.is_ascii_digit.ensures.value ∙ c.if-not-is_ascii_digit.false in
    let within : c.loop-i.i < length c.args.text.now = omega arith in
    let few : c.loop-i.i < 7 = omega (arith, c.loop-i.invariant.0) in
    omega (arith, number_more c.args.text.now c.loop-i.i c.loop-i.number within few c.loop-i.invariant.1 digit c.loop-i.invariant.2)

pub overflow_add-number : goal.overflow_add-number
overflow_add-number c =
    let digit : is_ascii_digit (get_or c.args.text.now c.loop-i.i 0) ≡ true = sym c.is_ascii_digit.ensures.value ∙ c.if-not-is_ascii_digit.false in
    let within : c.loop-i.i < length c.args.text.now = omega arith in
    let few : c.loop-i.i < 7 = omega (arith, c.loop-i.invariant.0) in
    omega (arith, c.from.ensures, number_more c.args.text.now c.loop-i.i c.loop-i.number within few c.loop-i.invariant.1 digit c.loop-i.invariant.2)

pub loop-i-preserved : goal.loop-i-preserved
loop-i-preserved c =
    let digit : is_ascii_digit (get_or c.args.text.now c.loop-i.i 0) ≡ true = sym c.is_ascii_digit.ensures.value ∙ c.if-not-is_ascii_digit.false in
    let within : c.loop-i.i < length c.args.text.now = omega arith in
    let few : c.loop-i.i < 7 = omega (arith, c.loop-i.invariant.0) in
    let more = number_more c.args.text.now c.loop-i.i c.loop-i.number within few c.loop-i.invariant.1 digit c.loop-i.invariant.2 in
    (omega arith, digits_more c.args.text.now c.loop-i.i within c.loop-i.invariant.1 digit, rw c.from.ensures more.0)
