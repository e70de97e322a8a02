-- The members of a set in increasing order.
use Rattle.std.specs.Prelude.{ℕ, ◌-◌, List}
use Rattle.std.specs.List.{filter, range_with_len}
use Rattle.lp_numbers.specs.Numbers.{Numbers, has}

-- the members from a number on
unfoldable pub members_from : ℕ → Numbers → List ℕ
members_from first set = filter (has set) (range_with_len first (65536 - first))
