-- Lists of groups in one store.
use Rattle.std.specs.Prelude.{◌≡◌, ℕ, zero, suc, ◌≤◌, List, [], ◌∷◌, slice_range}
use Rattle.lp_stack.specs.declared.number.GroupId.{GroupId}
use Rattle.lp_definitions.specs.Events.{group_numbers}

-- the lists that end at these places, the first of which starts at a place
unfoldable pub lists_from : (start : ℕ) → (ends : List ℕ) → List GroupId → List (List ℕ)
lists_from start [] groups = []
lists_from start (end ∷ ends) groups = group_numbers (slice_range groups start end) ∷ lists_from end ends groups

-- no list ends before it starts, and the last one ends where all groups do
abbrev pub AreEnds : (start : ℕ) → (ends : List ℕ) → (count : ℕ) → Type 0
AreEnds start [] count = start ≡ count
AreEnds start (end ∷ ends) count = (start ≤ end) × AreEnds end ends count

-- where the list at a place starts
abbrev pub start_of : (start : ℕ) → (ends : List ℕ) → (place : ℕ) → ℕ
start_of start ends zero = start
start_of start [] (suc place) = start
start_of start (end ∷ ends) (suc place) = start_of end ends place
