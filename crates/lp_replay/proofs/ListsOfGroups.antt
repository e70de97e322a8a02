-- Lists of groups in one store.
use Rattle.std.proofs.Common.{◌≡◌, ℕ, zero, suc, ◌+◌, ◌-◌, ◌<◌, ◌≤◌, List, [], ◌∷◌, ◌++◌, length, take, drop, slice_range, slice_index, arith, refl, sym, ap, ap₂, ◌∙◌}
use Rattle.std.proofs.lemmas.List.{drop-drop, drop_all, drop_at, drop-append-le, take_all, take-append-le, length-drop}
use Rattle.lp_stack.specs.declared.number.GroupId.{GroupId}
use Rattle.lp_definitions.specs.Events.{group_numbers}
use Rattle.lp_replay.specs.Replies.{first_groups}
use Rattle.lp_replay.specs.inside.GroupLists.{lists_from, AreEnds, start_of}

-- ---- Ends

pub ends_fit : (start : ℕ) (ends : List ℕ) (count : ℕ) → AreEnds start ends count → start ≤ count
ends_fit start [] count h = omega (arith, h)
ends_fit start (end ∷ ends) count h = let rest = ends_fit end ends count h.1 in omega (arith, h.0, rest)

-- one more list, which may be empty
pub ends_added : (start : ℕ) (ends : List ℕ) (count next : ℕ) → count ≤ next → AreEnds start ends count → AreEnds start (ends ++ next ∷ []) next
ends_added start [] count next more h = (omega (arith, more, h), refl)
ends_added start (end ∷ ends) count next more h = (h.0, ends_added end ends count next more h.1)

-- the list at a place is within the store
pub place_fits : (start : ℕ) (ends : List ℕ) (count place : ℕ) → place < length ends → AreEnds start ends count
    → (start_of start ends place ≤ slice_index ends place) × (slice_index ends place ≤ count)
place_fits start [] count place below h = absurd (omega (arith, below))
place_fits start (end ∷ ends) count zero below h = (h.0, ends_fit end ends count h.1)
place_fits start (end ∷ ends) count (suc place) below h = place_fits end ends count place (omega (arith, below)) h.1

-- a list starts where the one before it ends
pub start_after : (start : ℕ) (ends : List ℕ) (place : ℕ) → place < length ends → start_of start ends (suc place) ≡ slice_index ends place
start_after start [] place below = absurd (omega (arith, below))
start_after start (end ∷ ends) zero below = refl
start_after start (end ∷ ends) (suc place) below = start_after end ends place (omega (arith, below))

-- ---- Lists

-- groups after a list change nothing of it
range_kept : (groups more : List GroupId) (start end : ℕ) → start ≤ end → end ≤ length groups → slice_range (groups ++ more) start end ≡ slice_range groups start end
range_kept groups more start end ordered fits =
    ap (take (end - start)) (drop-append-le start groups more (omega (arith, ordered, fits)))
    ∙ take-append-le (end - start) (drop start groups) more (omega (arith, ordered, fits, length-drop start groups))

-- one more list
pub lists_added : (start : ℕ) (ends : List ℕ) (groups more : List GroupId) (end : ℕ) → AreEnds start ends (length groups) → end ≡ length groups + length more
    → lists_from start (ends ++ end ∷ []) (groups ++ more) ≡ lists_from start ends groups ++ group_numbers more ∷ []
unfolding lists_from
lists_added start [] groups more end h is =
    ap (λ (gs : List GroupId). group_numbers gs ∷ [])
    (ap (take (end - start)) (drop_at groups more start (sym h)) ∙ take_all (end - start) more (omega (arith, h, is)))
lists_added start (first ∷ ends) groups more end h is =
    ap₂ (λ (gs : List GroupId) (lists : List (List ℕ)). group_numbers gs ∷ lists)
    (range_kept groups more start first h.0 (ends_fit first ends (length groups) h.1))
    (lists_added first ends groups more end h.1 is)

pub none_from : (start : ℕ) (groups : List GroupId) → lists_from start [] groups ≡ []
unfolding lists_from
none_from start groups = refl

-- there are as many as ends
pub count_lists : (start : ℕ) (ends : List ℕ) (groups : List GroupId) → length (lists_from start ends groups) ≡ length ends
unfolding lists_from
count_lists start [] groups = refl
count_lists start (end ∷ ends) groups = ap suc (count_lists end ends groups)

-- the list at a place
pub list_at : (start : ℕ) (ends : List ℕ) (groups : List GroupId) (place : ℕ) → place < length ends
    → group_numbers (slice_range groups (start_of start ends place) (slice_index ends place)) ≡ first_groups (drop place (lists_from start ends groups))
unfolding lists_from
list_at start [] groups place below = absurd (omega (arith, below))
list_at start (end ∷ ends) groups zero below = refl
list_at start (end ∷ ends) groups (suc place) below = list_at end ends groups place (omega (arith, below))

-- none is after the last one
pub none_at : (start : ℕ) (ends : List ℕ) (groups : List GroupId) (place : ℕ) → length ends ≤ place → drop place (lists_from start ends groups) ≡ []
none_at start ends groups place past = drop_all place (lists_from start ends groups) (omega (arith, past, count_lists start ends groups))

-- the lists after the next one
pub after_next : (lists : List (List ℕ)) (place : ℕ) → drop (place + 1) lists ≡ drop 1 (drop place lists)
after_next lists place = sym (drop-drop 1 place lists)

pub after_last : (lists : List (List ℕ)) (place : ℕ) → drop place lists ≡ [] → drop place lists ≡ drop 1 (drop place lists)
after_last lists place none = none ∙ sym (ap (drop 1) none)
