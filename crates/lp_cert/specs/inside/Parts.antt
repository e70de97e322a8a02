-- Parts of lists of reasons.
use Rattle.std.specs.Prelude.{◌≡◌, ℕ, ◌+◌, ◌<◌, ◌≤◌, List, [], drop, length, slice_index_or, Option, Some, None}
use Rattle.lp_cert.specs.declared.reason.Reason.{Reason}

-- the reasons that are left, if there was one
abbrev pub reasons_left : Option (List Reason) → List Reason
reasons_left None = []
reasons_left (Some reasons) = reasons

-- the list is there, and has so many reasons
pub record IsPart (lists : List (List Reason)) (list count : ℕ) : Type 0 where
  pub known : list < length lists
  pub enough : count ≤ length (slice_index_or lists list [])

-- at a place is the list without so many of its newest reasons
pub record IsWithout (lists : List (List Reason)) (list count place : ℕ) : Type 0 where
  pub known : place < length lists
  pub rest : slice_index_or lists place [] ≡ drop count (slice_index_or lists list [])

-- of 16 places the first are those of the list without a first number of its newest reasons, without one more, and so on, before an end
pub record AreWithout (lists : List (List Reason)) (list first end : ℕ) (places : List ℕ) : Type 0 where
  pub order : first ≤ end
  pub wide : length places ≡ 16
  pub few : end ≤ first + 16
  pub each : (k : ℕ) → first + k < end → IsWithout lists list (first + k) (slice_index_or places k 0)
