-- The members of a set in increasing order.
use Rattle.std.proofs.Common.{◌≡◌, ℕ, zero, suc, ◌+◌, ◌-◌, ◌<◌, ◌≤◌, Bool, false, [], ◌∷◌, None, refl, ap, ap₂, ◌∙◌, arith}
use Rattle.std.proofs.lemmas.Bool.{cond-true, cond-false}
use Rattle.std.specs.List.{filter, range_with_len}
use Rattle.lp_numbers.specs.Numbers.{Numbers, has, IsLeastFrom, IsNextFrom}
use Rattle.lp_numbers.specs.Ascending.{members_from}

-- no number of these passes
pub none_in : (test : ℕ → Bool) (k a : ℕ) → ((n : ℕ) → a ≤ n → n < a + k → test n ≡ false) → filter test (range_with_len a k) ≡ []
none_in test zero a h = refl
none_in test (suc k) a h =
    cond-false (test a) (a ∷ filter test (range_with_len (a + 1) k)) (filter test (range_with_len (a + 1) k)) (h a (omega arith) (omega arith))
    ∙ none_in test k (a + 1) (λ n low high. h n (omega arith) (omega arith))

-- those that don't pass are passed over
pub skip_to : (test : ℕ → Bool) (j k a m b : ℕ) → j + k ≡ m → a + j ≡ b → ((n : ℕ) → a ≤ n → n < b → test n ≡ false) → filter test (range_with_len a m) ≡ filter test (range_with_len b k)
skip_to test zero k a m b e f h =
    let same : a ≡ b = omega arith in
    let count : m ≡ k = omega arith in
    ap₂ (λ x y. filter test (range_with_len x y)) same count
skip_to test (suc j) k a m b e f h =
    let more : m ≡ suc (j + k) = omega arith in
    ap (λ n. filter test (range_with_len a n)) more
    ∙ cond-false (test a) (a ∷ filter test (range_with_len (a + 1) (j + k))) (filter test (range_with_len (a + 1) (j + k))) (h a (omega arith) (omega arith))
    ∙ skip_to test j k (a + 1) (j + k) b refl (omega arith) (λ n low high. h n (omega arith) high)

-- from 65,536 on there is none
pub members_from-past : (first : ℕ) (set : Numbers) → 65536 ≤ first → members_from first set ≡ []
unfolding members_from
members_from-past first set past = none_in (has set) (65536 - first) first (λ n low high. absurd (omega arith))

-- where no member is found there is none
pub members_from-none : (first : ℕ) (set : Numbers) → IsNextFrom (has set) first None → members_from first set ≡ []
unfolding members_from
members_from-none first set none = none_in (has set) (65536 - first) first (λ n low high. none n low)

-- the member that is found stands in front of those after it
pub members_from-some : (first n : ℕ) (set : Numbers) → n < 65536 → IsLeastFrom (has set) first n → members_from first set ≡ n ∷ members_from (n + 1) set
unfolding members_from
members_from-some first n set fits least =
    let low = least.within in
    let more : 65536 - n ≡ suc (65536 - (n + 1)) = omega arith in
    skip_to (has set) (n - first) (65536 - n) first (65536 - first) n (omega arith) (omega arith) (λ k from below. least.least k from below)
    ∙ ap (λ k. filter (has set) (range_with_len n k)) more
    ∙ cond-true (has set n) (n ∷ filter (has set) (range_with_len (n + 1) (65536 - (n + 1)))) (filter (has set) (range_with_len (n + 1) (65536 - (n + 1)))) least.passes

pub ruleset ascents = (members_from-past, members_from-none, members_from-some)
