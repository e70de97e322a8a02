-- Numbers in increasing order, as loops over tasks take them.
use Rattle.std.specs.Prelude.{ℕ, ◌-◌, Bool, List, [], ◌∷◌}
use Rattle.std.specs.List.{filter, range_with_len}

-- the numbers from a first one to below a limit that pass a test
unfoldable pub passing : ℕ → ℕ → (ℕ → Bool) → List ℕ
passing first limit test = filter test (range_with_len first (limit - first))

-- the place to which a loop has come that has these numbers left
abbrev pub place_of : List ℕ → ℕ
place_of [] = 65536
place_of (n ∷ ns) = n
