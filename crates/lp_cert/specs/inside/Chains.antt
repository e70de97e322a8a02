-- Lists of reasons that share their older parts.
use Rattle.std.specs.Prelude.{◌≡◌, ℕ, suc, ◌+◌, ◌-◌, ◌<◌, ◌≤◌, List, [], ◌∷◌, ◌++◌, drop, length, slice_index_or}
use Rattle.std.specs.List.{fold}
use Rattle.lp_cert.specs.declared.reason.Reason.{Reason}
use Rattle.lp_cert.specs.declared.reason.Reason.TheVariants.{One, Busy}
use Rattle.lp_cert.specs.declared.chains.Entry.{Entry}

-- the lists, each with the newest reason in front, and how many more there is room for
pub record Lists : Type 0 where
  pub lists : List (List Reason)
  pub room : ℕ

-- the lists with that of an entry: its reason in front of an earlier one
abbrev pub with_entry : List (List Reason) → Entry → List (List Reason)
with_entry lists entry = lists ++ (entry.reason ∷ slice_index_or lists entry.older.0 []) ∷ []

-- the empty list, and that of each entry
unfoldable pub lists_of : List Entry → List (List Reason)
lists_of entries = fold with_entry ([] ∷ []) entries

-- a list is the other without some of its newest reasons
pub record IsTail (tail list : List Reason) : Type 0 where
  pub shorter : length tail ≤ length list
  pub rest : tail ≡ drop (length list - length tail) list

-- how many lines a reason has
abbrev pub reason_count : Reason → ℕ
reason_count (One line) = 1
reason_count (Busy group task first end) = end - first

-- how many lines reasons have
abbrev pub line_count : List Reason → ℕ
line_count [] = 0
line_count (reason ∷ reasons) = line_count reasons + reason_count reason

-- a number of lines: all that reasons have, or the greatest number of 32 bits where they have more
pub record IsLineCount (reasons : List Reason) (lines : ℕ) : Type 0 where
  pub no_more : lines ≤ line_count reasons
  pub all : lines < 4294967295 → lines ≡ line_count reasons

-- an entry stands in front of one of the lists before it, counts its reasons and their lines, and jumps to that list or further back
pub record IsLinked (lists : List (List Reason)) (before : ℕ) (entry : Entry) : Type 0 where
  pub older : entry.older.0 < before
  pub count : entry.count ≡ suc (length (slice_index_or lists entry.older.0 []))
  pub few : entry.count ≤ before
  pub lines : IsLineCount (entry.reason ∷ slice_index_or lists entry.older.0 []) entry.lines
  pub jump : entry.jump.0 < before
  pub tail : IsTail (slice_index_or lists entry.jump.0 []) (slice_index_or lists entry.older.0 [])

-- at the first place is the empty list
pub record IsEmptyAt (lists : List (List Reason)) (at : ℕ) : Type 0 where
  pub first : at ≡ 0
  pub empty : slice_index_or lists at [] ≡ []

-- at a place is the list of an entry
pub record IsEntryAt (lists : List (List Reason)) (at : ℕ) (entry : Entry) : Type 0 where
  pub list : slice_index_or lists at [] ≡ entry.reason ∷ slice_index_or lists entry.older.0 []
  pub linked : IsLinked lists at entry

-- each entry is linked to the lists before it, where these are there before the first entry
abbrev pub AreLinked : List (List Reason) → List Entry → Type 0
AreLinked lists [] = Unit {0}
AreLinked lists (entry ∷ entries) = IsLinked lists (length lists) entry × AreLinked (with_entry lists entry) entries
