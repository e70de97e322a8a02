use Rattle.std.proofs.Common.{◌/◌, sym, ◌∙◌}
use Rattle.std.proofs.lemmas.List.{ext_get_or}
use Rattle.lp_numbers.proofs.Bits.{word_has-zero}
use Rattle.lp_numbers.proofs.levels.copy_blocks.Goals as goal

pub returns : goal.returns
returns c = ext_get_or 0 c.loop-rest.words c.args.others.now (c.loop-rest.invariant.count ∙ sym c.requires.others) (λ i _. c.loop-rest.invariant.same i (rw c.loop-rest-test.false (word_has-zero (i / 64))))
