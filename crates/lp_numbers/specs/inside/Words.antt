-- How a set is kept: as the bits of words of 64 bits, with a second row of words over the first, and one word over that.
use Rattle.std.specs.Prelude.{◌≡◌, ℕ, ◌*◌, ◌/◌, ◌%◌, Bool, not, List, map, length, slice_index, ◌==◌}
use Rattle.std.specs.Int.{bit_at}
use Rattle.std.specs.List.{range_with_len}
use Rattle.lp_numbers.specs.Numbers.{Numbers}

-- whether a bit of a word is 1; bit 0 is the lowest
unfoldable pub word_has : ℕ → ℕ → Bool
word_has word bit = bit_at word bit == 1

-- whether a bit of a row of words is 1: bit n of the row is bit n % 64 of its word n / 64
abbrev pub row_has : List ℕ → ℕ → Bool
row_has row n = word_has (slice_index row (n / 64)) (n % 64)

-- the set that a row of words stands for: its members are the bits that are 1
unfoldable pub numbers_of : List ℕ → Numbers
numbers_of row = map (row_has row) (range_with_len 0 (64 * length row))

-- each word of the row is 0
abbrev pub IsBlank : List ℕ → Type 0
IsBlank row = (i : ℕ) → slice_index row i ≡ 0

-- 1,024 words, 16 over them of which bit i says whether word i isn't 0, and one over those in the same way
pub record IsThreeLevel (words summary : List ℕ) (top : ℕ) : Type 0 where
  pub count : length words ≡ 1024
  pub summaries : length summary ≡ 16
  pub right : (i : ℕ) → row_has summary i ≡ not (slice_index words i == 0)
  pub high : (i : ℕ) → word_has top i ≡ not (slice_index summary i == 0)
