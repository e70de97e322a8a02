use Rattle.std.proofs.Common.{◌/◌, refl, sym, slice_index}
use Rattle.std.specs.Int.Bits.{xor_zero_r}
use Rattle.lp_numbers.proofs.Bits.{word_has-zero}
use Rattle.lp_numbers.proofs.ThreeLevels.{top-few, zero-unnamed_above}
use Rattle.lp_numbers.proofs.levels.turn.Goals as goal

pub loop-rest-init : goal.loop-rest-init
loop-rest-init c = record {
  levels = c.requires.levels;
  few = λ place h. top-few c.args.others.now c.args.summary_others.now c.args.top_others place c.requires.others h;
  left = λ i _. refl;
  here = λ i none. rw (zero-unnamed_above c.args.others.now c.args.summary_others.now c.args.top_others i c.requires.others none) (sym (xor_zero_r (slice_index c.args.words.now i)));
}

pub returns-clause-turned : goal.returns-clause-turned
returns-clause-turned c = λ i. c.loop-rest.invariant.here i (rw c.loop-rest-test.false (word_has-zero (i / 64)))
