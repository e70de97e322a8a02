use Rattle.std.proofs.Common.{◌≡◌, ℕ, ◌≤◌, ◌/◌, false, true, slice_index}
use Rattle.std.specs.Int.Bits.{bit_xor}
use Rattle.lp_numbers.specs.inside.Words.{word_has, IsThreeLevel}
use Rattle.lp_numbers.proofs.levels.turn.Given as goal

-- the words that the rest doesn't name are turned, and no other
abbrev pub invariant-loop-rest : goal.invariant-loop-rest
invariant-loop-rest l = record {
  levels : IsThreeLevel l.words l.summary l.over;
  few : (place : ℕ) → 16 ≤ place → word_has l.rest place ≡ false;
  left : (i : ℕ) → word_has l.rest (i / 64) ≡ true → slice_index l.words i ≡ slice_index l.fn.words i;
  here : (i : ℕ) → word_has l.rest (i / 64) ≡ false → slice_index l.words i ≡ bit_xor (slice_index l.fn.words i) (slice_index l.others i);
}

abbrev pub decreases-loop-rest : goal.decreases-loop-rest
decreases-loop-rest l = l.rest
