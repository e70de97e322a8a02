use Rattle.std.proofs.Common.{◌≡◌, ◌≢◌, ℕ, ◌+◌, ◌*◌, ◌/◌, ◌%◌, false, true, inl, inr, ◌⊎◌, refl, sym, ap, subst, ◌∙◌, arith, slice_index}
use Rattle.std.specs.Int.Bits.{bit_xor}
use Rattle.std.proofs.lemmas.Bool.{cases_eq, eq-eqb, ne_eqb, false≢true}
use Rattle.lp_numbers.specs.inside.Words.{word_has}
use Rattle.lp_numbers.proofs.Bits.{word_has-zero}
use Rattle.lp_numbers.proofs.levels.turn_named.Goals as goal

pub loop-rest-preserved : goal.loop-rest-preserved
loop-rest-preserved c = record {
  levels = c.turn_word-over.ensures.levels;
  left = λ i some here. c.turn_word-over.ensures.rest i (λ e. absurd (false≢true (sym (gone (i % 64) (omega arith)) ∙ some))) ∙ c.loop-rest.invariant.left i (kept (i % 64) some) here;
  here = λ i none here. by i none here (cases_eq (i % 64) c.lowest_bit-bit.result);
  rest = λ i ne. c.turn_word-over.ensures.rest i (λ e. ne (omega (arith, c.lowest_bit-bit.ensures.below))) ∙ c.loop-rest.invariant.rest i ne;
}
  where
    gone : (k : ℕ) → k ≡ c.lowest_bit-bit.result → word_has c.without_bit-rest.result k ≡ false
    gone k e = c.without_bit-rest.ensures.bits k ∙ rw (eq-eqb k c.lowest_bit-bit.result e) refl

    same : (k : ℕ) → k ≢ c.lowest_bit-bit.result → word_has c.without_bit-rest.result k ≡ word_has c.loop-rest.rest k
    same k ne = c.without_bit-rest.ensures.bits k ∙ rw (ne_eqb k c.lowest_bit-bit.result ne) refl

    kept : (k : ℕ) → word_has c.without_bit-rest.result k ≡ true → word_has c.loop-rest.rest k ≡ true
    kept k some = elim (cases_eq k c.lowest_bit-bit.result) [
      | inl e ↦ absurd (false≢true (sym (gone k e) ∙ some))
      | inr ne ↦ sym (same k ne) ∙ some
    ]

    by :
        (i : ℕ) → word_has c.without_bit-rest.result (i % 64) ≡ false → i / 64 ≡ c.args.place → (i % 64 ≡ c.lowest_bit-bit.result) ⊎ (i % 64 ≢ c.lowest_bit-bit.result) →
        slice_index c.turn_word-over.new.words i ≡ bit_xor (slice_index c.args.words.now i) (slice_index c.args.others.now i)
    by i none here (inl e) =
        let at : i ≡ c.args.place * 64 + c.lowest_bit-bit.result = omega arith in
        let before = c.loop-rest.invariant.left i (rw e c.lowest_bit-bit.ensures.lowest.passes) here in
        subst
        (λ k. slice_index c.turn_word-over.new.words k ≡ bit_xor (slice_index c.loop-rest.words k) (slice_index c.args.others.now k))
        (sym at)
        c.turn_word-over.ensures.here
        ∙ ap (λ w. bit_xor w (slice_index c.args.others.now i)) before
    by i none here (inr ne) = c.turn_word-over.ensures.rest i (λ e. ne (omega (arith, c.lowest_bit-bit.ensures.below))) ∙ c.loop-rest.invariant.here i (sym (same (i % 64) ne) ∙ none) here

pub returns-clause-here : goal.returns-clause-here
returns-clause-here c = λ i e. c.loop-rest.invariant.here i (rw c.loop-rest-test.false (word_has-zero (i % 64))) e
