-- The bits of one word.
use Rattle.std.proofs.Common.{◌≡◌, ◌≢◌, ℕ, zero, suc, ◌+◌, ◌-◌, ◌*◌, ◌/◌, ◌%◌, ◌^◌, ◌≤◌, ◌<◌, Bool, true, false, ◌==◌, if◌then◌else◌, inl, inr, refl, sym, ap, ◌∙◌, arith, add-one, w64, bit_and, bit_or, bit_xor, zero-le, not}
use Rattle.std.specs.Int.{bit_at, trailing_zeros}
use Rattle.std.proofs.lemmas.Bool.{eqb-true, eqb-false, ne_eqb, cases_lt, false≢true}
use Rattle.std.proofs.lemmas.Nat.{shr-shr, shr_below, and_le_l}
use Rattle.std.proofs.lemmas.Nat.Bits.{bit_at-zero, bit_at-lt, bit_at_lowest, bit_at_above, bit_at_set_same, bit_at_set_other, bit_at_or, bit_at_xor, same_from_bits_below, bit_at_clear_same, bit_at_clear_other, bit_at-trailing_zeros, shr_and_one}
use Rattle.lp_numbers.specs.Numbers.{IsLeastFrom}
use Rattle.lp_numbers.specs.inside.Words.{word_has}

-- 0 has no bit
pub word_has-zero : (bit : ℕ) → word_has 0 bit ≡ false
unfolding word_has
word_has-zero bit = rw bit_at-zero refl

has-one : (word bit : ℕ) → bit_at word bit ≡ 1 → word_has word bit ≡ true
unfolding word_has
has-one word bit e = rw e refl

has-none : (word bit : ℕ) → bit_at word bit ≡ 0 → word_has word bit ≡ false
unfolding word_has
has-none word bit e = rw e refl

has-same : (word other bit : ℕ) → bit_at word bit ≡ bit_at other bit → word_has word bit ≡ word_has other bit
unfolding word_has
has-same word other bit e = rw e refl

-- `word | 1 << bit`
pub word_has-set : (word bit k : ℕ) → bit < 64 → word_has (bit_or word (1 * 2 ^ bit % 2 ^ 64)) k ≡ (if k == bit then true else word_has word k)
word_has-set word bit k h = by (k == bit) refl
  where
    by : (b : Bool) → (k == bit) ≡ b → word_has (bit_or word (1 * 2 ^ bit % 2 ^ 64)) k ≡ (if b then true else word_has word k)
    by true e = rw (eqb-true k bit e) (has-one (bit_or word (1 * 2 ^ bit % 2 ^ 64)) bit (bit_at_set_same w64 word bit h))
    by false e = has-same (bit_or word (1 * 2 ^ bit % 2 ^ 64)) word k (bit_at_set_other w64 word bit h k (eqb-false k bit e))

-- a bit of `word | other` that is none is a bit of neither
pub word_has-neither : (word other k : ℕ) → word_has (bit_or word other) k ≡ false → (word_has word k ≡ false) × (word_has other k ≡ false)
unfolding word_has
word_has-neither word other k none =
    let both = bit_at_or word other k in
    let few = bit_at-lt word k in
    let few_others = bit_at-lt other k in
    let not_one = eqb-false (bit_at (bit_or word other) k) 1 none in
    (has-none word k (omega arith), has-none other k (omega arith))

-- `word | other` has no bit that neither has
pub word_has-either_none : (word other k : ℕ) → word_has word k ≡ false → word_has other k ≡ false → word_has (bit_or word other) k ≡ false
unfolding word_has
word_has-either_none word other k none none_other =
    let both = bit_at_or word other k in
    let few = bit_at-lt word k in
    let few_others = bit_at-lt other k in
    let not_one = eqb-false (bit_at word k) 1 none in
    let not_one_other = eqb-false (bit_at other k) 1 none_other in
    has-none (bit_or word other) k (omega arith)

-- the sum of two bits, without what is carried
sum_of_bits : (mine its : ℕ) → mine < 2 → its < 2 → ((mine + its) % 2 == 1) ≡ (if its == 1 then not (mine == 1) else mine == 1)
sum_of_bits zero zero h l = refl
sum_of_bits zero (suc zero) h l = refl
sum_of_bits (suc zero) zero h l = refl
sum_of_bits (suc zero) (suc zero) h l = refl
sum_of_bits (suc (suc mine)) its h l = absurd (omega arith)
sum_of_bits mine (suc (suc its)) h l = absurd (omega arith)

-- `word ^ other`
pub word_has-turned : (word other k : ℕ) → word_has (bit_xor word other) k ≡ (if word_has other k then not (word_has word k) else word_has word k)
unfolding word_has
word_has-turned word other k = rw (bit_at_xor word other k) (sum_of_bits (bit_at word k) (bit_at other k) (bit_at-lt word k) (bit_at-lt other k))

-- two words with the same bits are equal
pub word-same : (word other : ℕ) → word < 2 ^ 64 → other < 2 ^ 64 → ((k : ℕ) → k < 64 → word_has word k ≡ word_has other k) → word ≡ other
unfolding word_has
word-same word other fits fits_other same = same_from_bits_below 64 word other fits fits_other (λ k h. by k (bit_at word k == 1) refl (same k h))
  where
    by : (k : ℕ) (b : Bool) → (bit_at word k == 1) ≡ b → (bit_at word k == 1) ≡ (bit_at other k == 1) → bit_at word k ≡ bit_at other k
    by k true e both = eqb-true (bit_at word k) 1 e ∙ sym (eqb-true (bit_at other k) 1 (sym both ∙ e))
    by k false e both =
        let few = bit_at-lt word k in
        let few_others = bit_at-lt other k in
        let not_one = eqb-false (bit_at word k) 1 e in
        let not_one_other = eqb-false (bit_at other k) 1 (sym both ∙ e) in
        omega arith

-- `word & !(1 << bit)`, at the bits of a word
word_has-clear : (word bit k : ℕ) → bit < 64 → k < 64 → word_has (bit_and word (2 ^ 64 - 1 - 1 * 2 ^ bit % 2 ^ 64)) k ≡ (if k == bit then false else word_has word k)
word_has-clear word bit k h l = by (k == bit) refl
  where
    by : (b : Bool) → (k == bit) ≡ b → word_has (bit_and word (2 ^ 64 - 1 - 1 * 2 ^ bit % 2 ^ 64)) k ≡ (if b then false else word_has word k)
    by true e = rw (eqb-true k bit e) (has-none (bit_and word (2 ^ 64 - 1 - 1 * 2 ^ bit % 2 ^ 64)) bit (bit_at_clear_same w64 word bit h))
    by false e = has-same (bit_and word (2 ^ 64 - 1 - 1 * 2 ^ bit % 2 ^ 64)) word k (bit_at_clear_other w64 word bit h k l (eqb-false k bit e))

-- `word & !(1 << bit)`
pub word_has-without : (word bit k : ℕ) → word < 2 ^ 64 → bit < 64 → word_has (bit_and word (2 ^ 64 - 1 - 1 * 2 ^ bit % 2 ^ 64)) k ≡ (if k == bit then false else word_has word k)
word_has-without word bit k fits h = elim (cases_lt k 64) [
  | inl l ↦ word_has-clear word bit k h l
  | inr m ↦
      let le = and_le_l word (2 ^ 64 - 1 - 1 * 2 ^ bit % 2 ^ 64) in
      let left : word_has (bit_and word (2 ^ 64 - 1 - 1 * 2 ^ bit % 2 ^ 64)) k ≡ false = has-none (bit_and word (2 ^ 64 - 1 - 1 * 2 ^ bit % 2 ^ 64)) k (bit_at_above (bit_and word (2 ^ 64 - 1 - 1 * 2 ^ bit % 2 ^ 64)) 64 k (omega arith) m) in
      let other : k ≢ bit = λ e. absurd (omega arith) in
      rw (ne_eqb k bit other, has-none word k (bit_at_above word 64 k fits m)) left
]

-- a word is less without one of its bits
pub without-less : (word bit : ℕ) → bit < 64 → word_has word bit ≡ true → bit_and word (2 ^ 64 - 1 - 1 * 2 ^ bit % 2 ^ 64) < word
without-less word bit h some =
    let le = and_le_l word (2 ^ 64 - 1 - 1 * 2 ^ bit % 2 ^ 64) in
    let none = has-none (bit_and word (2 ^ 64 - 1 - 1 * 2 ^ bit % 2 ^ 64)) bit (bit_at_clear_same w64 word bit h) in
    let ne : bit_and word (2 ^ 64 - 1 - 1 * 2 ^ bit % 2 ^ 64) ≢ word = λ e. false≢true (sym none ∙ ap (λ (w : ℕ). word_has w bit) e ∙ some) in
    omega arith

-- the lowest bit of a word that isn't 0
pub lowest-trailing_zeros : (word : ℕ) → 0 < word → word < 2 ^ 64 → IsLeastFrom (word_has word) 0 (trailing_zeros w64 word)
lowest-trailing_zeros word some fits =
    let facts = bit_at-trailing_zeros w64 word some fits in
    record {
      within = zero-le;
      passes = has-one word (trailing_zeros w64 word) facts.1;
      least = λ k _ h. has-none word k (facts.2 k h);
    }

-- a bit of `word >> from`
word_has-shifted : (word from k : ℕ) → word_has (word / 2 ^ from) k ≡ word_has word (from + k)
unfolding word_has
word_has-shifted word from k = rw (shr-shr word from k) refl

-- a bit from `from` on is a bit of `word >> from`
word_has-from : (word from n : ℕ) → from ≤ n → word_has word n ≡ word_has (word / 2 ^ from) (n - from)
word_has-from word from n h =
    let same : from + (n - from) ≡ n = omega arith in
    sym (word_has-shifted word from (n - from) ∙ ap (word_has word) same)

-- where `word >> from` is 0, there is no bit from `from` on
pub none-shifted : (word from : ℕ) → word / 2 ^ from ≡ 0 → (n : ℕ) → from ≤ n → word_has word n ≡ false
none-shifted word from e n h = word_has-from word from n h ∙ rw e (word_has-zero (n - from))

-- the lowest bit of `word >> from` is the lowest from `from` on
pub least-shifted : (word from bit : ℕ) → IsLeastFrom (word_has (word / 2 ^ from)) 0 bit → IsLeastFrom (word_has word) from (from + bit)
least-shifted word from bit lowest = record {
  within = omega arith;
  passes = sym (word_has-shifted word from bit) ∙ lowest.passes;
  least = λ k h l. word_has-from word from k h ∙ lowest.least (k - from) zero-le (omega arith);
}

-- the lowest bit of `word >> from >> 1` is the lowest above `from`
pub least-shifted-twice : (word from bit : ℕ) → IsLeastFrom (word_has (word / 2 ^ from / 2 ^ 1)) 0 bit → IsLeastFrom (word_has word) (from + 1) (from + 1 + bit)
least-shifted-twice word from bit lowest = least-shifted word (from + 1) bit (rw (shr-shr word from 1) at lowest)

-- a word of 64 bits has no bit past them
pub bit-below : (word bit : ℕ) → word < 2 ^ 64 → word_has word bit ≡ true → bit < 64
bit-below word bit fits e = elim (cases_lt bit 64) [
  | inl h ↦ h
  | inr h ↦ absurd (false≢true (sym (has-none word bit (bit_at_above word 64 bit fits h)) ∙ e))
]

-- `(word >> bit) & 1 == 1`
pub word_has-shr : (word bit : ℕ) → (bit_and (word / 2 ^ bit) 1 == 1) ≡ word_has word bit
unfolding word_has
word_has-shr word bit = rw (shr_and_one word bit) refl

-- a number without bits is 0
zero-below : (m n : ℕ) → n < 2 ^ m → ((bit : ℕ) → bit < m → word_has n bit ≡ false) → n ≡ 0
unfolding word_has
zero-below zero n h none = omega arith
zero-below (suc m) n h none =
    let within : n / 2 ^ 1 < 2 ^ m = shr_below n m 1 (rw add-one h) in
    let half : n / 2 ^ 1 ≡ 0 = zero-below m (n / 2 ^ 1) within (λ bit l. word_has-shifted n 1 bit ∙ none (1 + bit) (omega arith)) in
    let ne : bit_at n 0 ≢ 1 = eqb-false (bit_at n 0) 1 (none 0 (omega arith)) in
    let last : n % 2 ≡ 0 = omega (arith, bit_at_lowest n, bit_at-lt n 0) in
    omega arith

pub word-zero : (word : ℕ) → word < 2 ^ 64 → ((bit : ℕ) → bit < 64 → word_has word bit ≡ false) → word ≡ 0
word-zero word fits none = zero-below 64 word fits none
