use Rattle.std.proofs.Common.{◌≡◌, ◌≢◌, ℕ, ◌/◌, ◌%◌, not, ◌==◌, slice_index}
use Rattle.lp_numbers.specs.inside.Words.{word_has}
use Rattle.lp_numbers.proofs.levels.clear_named.Given as goal

-- the rest names those of the words that aren't 0 yet, and the words elsewhere are as they were
abbrev pub invariant-loop-rest : goal.invariant-loop-rest
invariant-loop-rest l = record {
  right : (i : ℕ) → i / 64 ≡ l.place → word_has l.rest (i % 64) ≡ not (slice_index l.words i == 0);
  others : (i : ℕ) → i / 64 ≢ l.place → slice_index l.words i ≡ slice_index l.initial.words i;
}

abbrev pub decreases-loop-rest : goal.decreases-loop-rest
decreases-loop-rest l = l.rest
