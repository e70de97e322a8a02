use Rattle.std.proofs.Common.{◌/◌, ◌%◌, ℕ, List, refl, sym, ap, ◌∙◌, slice_index}
use Rattle.std.proofs.lemmas.Bool.{false≢true}
use Rattle.lp_numbers.specs.inside.Words.{word_has}
use Rattle.lp_numbers.proofs.Bits.{word_has-zero}
use Rattle.lp_numbers.proofs.Rows.{rows-same}
use Rattle.lp_numbers.proofs.levels.are_same_blocks.Goals as goal

pub returns : goal.returns
returns c = (λ _ k. ap (λ w. word_has w (k % 64)) (c.loop-rest.invariant.same (k / 64) (rw c.loop-rest-test.false (word_has-zero (k / 64 / 64)))), λ _. refl)

pub returns-then-not-is_same_block : goal.returns-then-not-is_same_block
returns-then-not-is_same_block c = (
  λ no. absurd (false≢true no),
  λ all.
      let rows = rows-same c.args.words.now c.args.others.now (c.requires.count ∙ sym c.requires.others) (λ i. (c.type_inv.words i).fits) (λ i. (c.type_inv.others i).fits) all in
      let yes = c.is_same_block.ensures.1 (λ i _. ap (λ (row : List ℕ). slice_index row i) rows) in
      sym c.if-not-is_same_block.true ∙ yes,
)
