use Rattle.std.proofs.Common.{◌≡◌, ℕ, ◌≤◌, ◌/◌, false, slice_index}
use Rattle.lp_numbers.specs.inside.Words.{word_has}
use Rattle.lp_numbers.proofs.levels.are_same_blocks.Given as goal

-- the words that the rest doesn't name are equal to the others
abbrev pub invariant-loop-rest : goal.invariant-loop-rest
invariant-loop-rest l = record {
  few : (place : ℕ) → 16 ≤ place → word_has l.rest place ≡ false;
  same : (i : ℕ) → word_has l.rest (i / 64) ≡ false → slice_index l.words i ≡ slice_index l.others i;
}

abbrev pub decreases-loop-rest : goal.decreases-loop-rest
decreases-loop-rest l = l.rest
