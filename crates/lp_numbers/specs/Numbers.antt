-- Sets of numbers below 65,536.
use Rattle.std.specs.Prelude.{◌≡◌, ℕ, ◌<◌, ◌≤◌, Bool, true, false, List, Option, None, Some, slice_index_or}

-- a set says of each number below 65,536 whether the number is a member
abbrev pub Numbers : Type 0
Numbers = List Bool

-- whether a number is a member
abbrev pub has : Numbers → ℕ → Bool
has set n = slice_index_or set n false

-- no number is a member
abbrev pub IsEmpty : Numbers → Type 0
IsEmpty set = (n : ℕ) → has set n ≡ false

-- the least number that passes a test, of those from a first one on
pub record IsLeastFrom (test : ℕ → Bool) (first : ℕ) (n : ℕ) : Type 0 where
  pub within : first ≤ n
  pub passes : test n ≡ true
  pub least : (k : ℕ) → first ≤ k → k < n → test k ≡ false

-- the least number that passes a test, of those from a first one on; None where none of them passes
abbrev pub IsNextFrom : (ℕ → Bool) → ℕ → Option ℕ → Type 0
IsNextFrom test first None = (n : ℕ) → first ≤ n → test n ≡ false
IsNextFrom test first (Some n) = IsLeastFrom test first n
