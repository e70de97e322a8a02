-- Which numbers below 65,536 are in which of as many groups.
use Rattle.std.specs.Prelude.{ℕ, Bool, [], List, nat_eq, slice_index_or}
use Rattle.std.specs.List.{list_any}

-- for each group its members
abbrev pub Groups : Type 0
Groups = List (List ℕ)

-- whether a number is a member of a group
abbrev pub is_member : Groups → ℕ → ℕ → Bool
is_member groups group n = list_any (nat_eq n) (slice_index_or groups group [])
