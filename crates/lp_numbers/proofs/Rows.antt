-- The bits of a row of words.
use Rattle.std.proofs.Common.{◌≡◌, ℕ, ◌+◌, ◌*◌, ◌/◌, ◌%◌, ◌≤◌, ◌<◌, false, inl, inr, List, length, get_or, refl, sym, ◌∙◌, ◌^◌, arith}
use Rattle.std.proofs.lemmas.Bool.{cases_lt}
use Rattle.std.proofs.lemmas.List.{get_or_past, ext_get_or}
use Rattle.std.proofs.lemmas.Nat.{div-mul-add, mod-mul-add}
use Rattle.lp_numbers.specs.inside.Words.{word_has, row_has}
use Rattle.lp_numbers.proofs.Bits.{word_has-zero, word-same}

-- a bit of a word is a bit of its row
pub row_has-at : (row : List ℕ) (i bit : ℕ) → bit < 64 → row_has row (i * 64 + bit) ≡ word_has (get_or row i 0) bit
row_has-at row i bit h = rw (div-mul-add i 64 bit h, mod-mul-add i 64 bit h) refl

-- a word that is 0 has no bit of its row
pub row_has-zero : (row : List ℕ) (k : ℕ) → get_or row (k / 64) 0 ≡ 0 → row_has row k ≡ false
row_has-zero row k e = rw e (word_has-zero (k % 64))

-- past its words a row has no bit
pub row_has-past : (row : List ℕ) (k : ℕ) → length row ≤ k / 64 → row_has row k ≡ false
row_has-past row k h = row_has-zero row k (get_or_past row (k / 64) 0 h)

-- a walk through the words of a row ends
pub none-end : (row : List ℕ) (from i low : ℕ) → length row ≤ i → ((k : ℕ) → from ≤ k → k < i * 64 + low → row_has row k ≡ false) → (k : ℕ) → from ≤ k → row_has row k ≡ false
none-end row from i low end none k h = elim (cases_lt (k / 64) i) [
  | inl l ↦ none k h (omega arith)
  | inr l ↦ row_has-past row k (omega arith)
]

-- two rows of words with the same bits are equal
pub rows-same : (row other : List ℕ) → length row ≡ length other → ((i : ℕ) → get_or row i 0 < 2 ^ 64) → ((i : ℕ) → get_or other i 0 < 2 ^ 64) → ((k : ℕ) → row_has row k ≡ row_has other k) → row ≡ other
rows-same row other count fits fits_other same =
    ext_get_or 0 row other count
    (λ i _. word-same (get_or row i 0) (get_or other i 0) (fits i) (fits_other i) (λ bit h. sym (row_has-at row i bit h) ∙ same (i * 64 + bit) ∙ row_has-at other i bit h))
