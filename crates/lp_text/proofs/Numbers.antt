-- Numbers of up to seven digits.
use Rattle.std.proofs.Common.{◌≡◌, ◌<◌, ◌≤◌, ◌+◌, ◌*◌, ◌-◌, ℕ, List, length, take, get_or, true, rules, arith}
use Rattle.std.specs.Char.{is_ascii_digit, digit_value}
use Rattle.std.specs.List.{list_all}
use Rattle.std.specs.Int.{IsInRange}
use Rattle.std.specs.Str.Parse.{digits_value}
use Rattle.std.proofs.lemmas.Str.{digit_value_digit}
use Rattle.std.proofs.lemmas.Str.Parse.{IsNumeralModel, numerals_by_value, digits_value_short, digit_at, digits_value-take-le}
use Rattle.std.proofs.lemmas.Int.Digits.{digits_value_more}

-- the test of `number` in the words of `parse`
pub own : IsNumeralModel (λ ds. list_all is_ascii_digit ds ≡ true) (digits_value 10)
own = numerals_by_value _ (search rules)

pub value_small : (ds : List ℕ) → list_all is_ascii_digit ds ≡ true → length ds ≤ 7 → digits_value 10 ds < 10000000
value_small ds h few = digits_value_short own ds 7 h few

pub digit_is : (ds : List ℕ) (i : ℕ) → list_all is_ascii_digit ds ≡ true → i < length ds → IsInRange 48 57 (get_or ds i 0)
digit_is ds i h below = digit_at ds i (own.to ds h) below

-- the number after one digit more, and that it stays small
pub value_more : (ds : List ℕ) (i n : ℕ) → list_all is_ascii_digit ds ≡ true → length ds ≤ 7 → i < length ds → n ≡ digits_value 10 (take i ds) → (n * 10 + (get_or ds i 0 - 48) ≡ digits_value 10 (take (i + 1) ds)) × (n * 10 + (get_or ds i 0 - 48) < 10000000)
value_more ds i n h few below same =
    let more : digits_value 10 (take (i + 1) ds) ≡ digits_value 10 (take i ds) * 10 + digit_value (get_or ds i 0) = digits_value_more 10 ds i below in
    let digit : digit_value (get_or ds i 0) + 48 ≡ get_or ds i 0 = digit_value_digit (get_or ds i 0) (digit_is ds i h below) in
    let prefix : digits_value 10 (take (i + 1) ds) ≤ digits_value 10 ds = digits_value-take-le 10 ds (i + 1) (omega arith) in
    let small : digits_value 10 ds < 10000000 = value_small ds h few in
    (omega arith, omega arith)
