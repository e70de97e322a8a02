-- Sets that two levels of words keep.
use Rattle.std.proofs.Common.{◌≡◌, ◌≢◌, ℕ, ◌*◌, ◌≤◌, ◌<◌, Bool, false, not, ◌==◌, ◌/◌, ◌%◌, if◌then◌else◌, ◌⊎◌, inl, inr, List, length, get_or, set, bit_xor, refl, sym, ◌∙◌, arith, get_or-set_same, get_or-set_other, map, take, ◌++◌}
use Rattle.std.specs.List.{range_with_len}
use Rattle.std.proofs.lemmas.Bool.{cases_lt, cases_eq, eq-eqb, ne_eqb}
use Rattle.std.proofs.lemmas.List.{get_or_past, ext_get_or, length-set}
use Rattle.std.proofs.Math.Seq.{take-append_seam}
use Rattle.std.proofs.lemmas.List.FromFn.{length-map-range_with_len, get_or-map-range_with_len}
use Rattle.lp_numbers.specs.Numbers.{has}
use Rattle.lp_numbers.specs.inside.Words.{row_has, numbers_of}
use Rattle.lp_numbers.proofs.Bits.{word_has-zero, word_has-turned}
use Rattle.lp_numbers.proofs.Rows.{row_has-past}

-- ---- What a row of words stands for

pub length-numbers_of : (row : List ℕ) → length (numbers_of row) ≡ 64 * length row
unfolding numbers_of
length-numbers_of row = length-map-range_with_len (row_has row) 0 (64 * length row)

pub has-numbers_of : (row : List ℕ) (n : ℕ) → has (numbers_of row) n ≡ row_has row n
unfolding numbers_of
has-numbers_of row n = elim (cases_lt n (64 * length row)) [
  | inl h ↦ get_or-map-range_with_len (row_has row) 0 (64 * length row) n n false h (omega arith)
  | inr h ↦
      let short : length (map (row_has row) (range_with_len 0 (64 * length row))) ≤ n = rw (length-map-range_with_len (row_has row) 0 (64 * length row)) h in
      get_or_past (map (row_has row) (range_with_len 0 (64 * length row))) n false short ∙ sym (row_has-past row n (omega arith))
]

-- a bit that is put is a member that is put
pub numbers_of-put : (before row : List ℕ) (at : ℕ) (is_member : Bool) → length row ≡ length before → at < 64 * length before → ((k : ℕ) → row_has row k ≡ (if k == at then is_member else row_has before k)) → numbers_of row ≡ set (numbers_of before) at is_member
numbers_of-put before row at is_member same within bits =
    ext_get_or false (numbers_of row) (set (numbers_of before) at is_member)
    (rw (length-set, length-numbers_of row, length-numbers_of before, same) refl)
    (λ k h. has-numbers_of row k ∙ bits k ∙ by k (cases_eq k at))
  where
    inside : at < length (numbers_of before)
    inside = rw (length-numbers_of before) within

    by : (k : ℕ) → (k ≡ at) ⊎ (k ≢ at) → (if k == at then is_member else row_has before k) ≡ has (set (numbers_of before) at is_member) k
    by k (inl e) = rw (e, eq-eqb at at refl, get_or-set_same (numbers_of before) at is_member false inside) refl
    by k (inr n) = rw (ne_eqb k at n, get_or-set_other (numbers_of before) at k is_member false n) (sym (has-numbers_of before k))

-- the bits that others have are turned round
pub numbers_of-turned : (before others row : List ℕ) → ((i : ℕ) → get_or row i 0 ≡ bit_xor (get_or before i 0) (get_or others i 0)) → (n : ℕ) → has (numbers_of row) n ≡ (if has (numbers_of others) n then not (has (numbers_of before) n) else has (numbers_of before) n)
numbers_of-turned before others row turned n =
    rw (has-numbers_of row n, has-numbers_of others n, has-numbers_of before n, turned (n / 64)) (word_has-turned (get_or before (n / 64) 0) (get_or others (n / 64) 0) (n % 64))

-- a set has 65,536 numbers
pub numbers_of-count : (words : List ℕ) → length words ≡ 1024 → length (numbers_of words) ≡ 65536
numbers_of-count words e = omega (arith, length-numbers_of words)

-- what is written back through a slice of all words
pub written_back : (n : ℕ) (row rest : List ℕ) → length row ≡ n → take n (row ++ rest) ≡ row
written_back n row rest e = rw (← e) (take-append_seam row rest)

pub ruleset sets = (has-numbers_of, numbers_of-count, word_has-zero, written_back)
