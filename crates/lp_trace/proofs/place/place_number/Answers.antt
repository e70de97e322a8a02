use Rattle.std.proofs.Common.{◌≡◌, ◌+◌, ◌∙◌, ap, arith, refl, take}
use Rattle.itoa.proofs.Decimal.{decimal_four}
use Rattle.lp_trace.proofs.Digits.{digits_put}
use Rattle.lp_trace.proofs.place.place_number.Goals as goal

pub returns-clause-placed : goal.returns-clause-placed
returns-clause-placed c =
    let end = c.place_four-end.result in
    let on : end + 4 ≡ end + 2 + 2 = omega arith in
    let number = decimal_four c.args.number (omega arith) (omega arith) in
    let pairs = digits_put _ _ _ _ _ _ (ap (λ n. take n c.place_pair-2.new.text) on ∙ c.place_pair-2.ensures.placed) c.place_pair.ensures.placed refl in
    digits_put _ _ _ _ _ _ pairs c.place_four-end.ensures.placed number
