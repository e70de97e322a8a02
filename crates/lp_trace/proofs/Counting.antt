-- A number that mostly changes by little, and its digits.
use Rattle.std.proofs.Common.{◌≡◌, ◌<◌, ◌≤◌, ◌+◌, ◌*◌, ◌/◌, ◌%◌, ◌^◌, ℕ, zero, suc, List, [], ◌∷◌, ◌++◌, length, take, decimal, arith, refl, sym, ap, ap₂, ◌∙◌, append_assoc}
use Rattle.std.proofs.lemmas.Fmt.{decimal_digit, decimal_step, length-decimal-le}
use Rattle.std.proofs.lemmas.List.{length-take-le, take_more_set}
use Rattle.std.proofs.Math.ListN.{set}
use Rattle.lp_trace.specs.inside.Counting.{tens_digits}

-- the last digit stands after those of the tens
pub last_digit : (tens ones n : ℕ) → n ≡ 10 * tens + ones → ones < 10 → n < 2 ^ 64 → tens_digits tens ++ (48 + ones) ∷ [] ≡ decimal n
last_digit zero ones n is few fits =
    let same : ones ≡ n = omega arith in
    ap (λ k. (48 + k) ∷ []) same ∙ sym (decimal_digit n (omega arith))
last_digit (suc tens) ones n is few fits =
    let first : suc tens ≡ n / 10 = omega arith in
    let last : ones ≡ n % 10 = omega arith in
    ap₂ (λ t k. decimal t ++ (48 + k) ∷ []) first last ∙ sym (decimal_step n (omega arith) fits)

-- the digits of some tens
pub some_tens : (tens : ℕ) → 0 < tens → decimal tens ≡ tens_digits tens
some_tens zero some = absurd (omega arith)
some_tens (suc tens) some = refl

-- they are few
pub few_tens : (tens len : ℕ) (text : List ℕ) → tens < 1844674407370955162 → len ≤ length text → take len text ≡ decimal tens → len ≤ 19
few_tens tens len text small near put =
    let long : length (take len text) ≡ len = length-take-le len text near in
    let few : length (decimal tens) ≤ 19 = length-decimal-le 19 tens (omega arith) (omega arith) (omega arith) in
    omega (arith, long, ap length put)

-- the last digit and a short text were put after the digits of the tens
pub counted_put : (old first placed digits rest number : List ℕ) (last at count len end : ℕ) → at + count < length first → take (at + count) first ≡ take at old ++ digits → digits ++ last ∷ [] ≡ number → end ≡ at + count + 1 + len → take (at + count + 1 + len) placed ≡ take (at + count + 1) (set first (at + count) last) ++ take len rest → take end placed ≡ take at old ++ (number ++ take len rest)
counted_put old first placed digits rest number last at count len end below put spelled is more =
    ap (λ n. take n placed) is
    ∙ more
    ∙ ap (λ l. l ++ take len rest) (take_more_set first (at + count) last below ∙ ap (λ l. l ++ last ∷ []) put ∙ append_assoc (take at old) digits (last ∷ []) ∙ ap (λ l. take at old ++ l) spelled)
    ∙ append_assoc (take at old) number (take len rest)
