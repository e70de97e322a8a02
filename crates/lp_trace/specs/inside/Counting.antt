-- A number that mostly changes by little, and its digits.
use Rattle.std.specs.Prelude.{◌≡◌, ℕ, zero, suc, ◌+◌, ◌/◌, ◌%◌, ◌<◌, ◌≤◌, List, [], take, decimal}

-- all digits of a number but the last, by the number of its tens
abbrev pub tens_digits : ℕ → List ℕ
tens_digits zero = []
tens_digits (suc tens) = decimal (suc tens)

-- a text begins with these digits
pub record IsCounter (tens ones : ℕ) (text : List ℕ) (len : ℕ) : Type 0 where
  pub whole : tens % 10 ≡ 0
  pub one_digit : ones < 10
  pub fits : tens + ones < 18446744073709551616
  pub digits : take len text ≡ tens_digits (tens / 10)
  pub few : len ≤ 19
