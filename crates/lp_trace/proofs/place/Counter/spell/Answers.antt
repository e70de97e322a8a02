use Rattle.std.proofs.Common.{◌≡◌, ◌-◌, ◌/◌, ◌%◌, ◌∙◌, ap, arith}
use Rattle.lp_trace.specs.inside.Counting.{tens_digits}
use Rattle.lp_trace.proofs.place.Counter.spell.Goals as goal

pub invariant_of-self : goal.invariant_of-self
invariant_of-self c =
    let number = c.args.number in
    let same : number / 10 ≡ (number - number % 10) / 10 = omega arith in
    record {
      whole = omega arith;
      one_digit = omega arith;
      fits = omega arith;
      digits = c.place_tens-self-inside.ensures.digits ∙ ap tens_digits same;
      few = c.place_tens-self-inside.ensures.few;
    }
