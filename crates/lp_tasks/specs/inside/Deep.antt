-- How the stacks that a task's record has no room for are kept.
use Rattle.std.specs.Prelude.{◌≡◌, ℕ, suc, ◌+◌, ◌<◌, ◌≤◌, ◌-◌, true, false, List, [], ◌∷◌, length, map, take, Option, None, Some, is_some, count_by, nat_le, if◌then◌else◌, slice_index_or}
use Rattle.std.specs.Option.{option_map}
use Rattle.lp_stack.specs.declared.frame.Frame.{Frame}
use Rattle.lp_numbers.specs.Numbers.{Numbers, has}
use Rattle.lp_numbers.specs.Groups.{Groups}
use Rattle.lp_definitions.specs.Leg.{LegTask}
use Rattle.lp_tasks.specs.inside.Slots.{padded, IsTable}

-- for each task its stack, if that is deep; none past the end
abbrev pub Deep : Type 0
Deep = List (Option (List Frame))

-- the deep stack of a task
abbrev pub deep_at : Deep → (t : ℕ) → Option (List Frame)
deep_at deep t = slice_index_or deep t None

-- ---- The arrays

-- the array of a task
abbrev pub place_at : List (Option ℕ) → (t : ℕ) → Option ℕ
place_at places t = slice_index_or places t None

-- the frames in an array
abbrev pub frames_at : List (List Frame) → (place : ℕ) → List Frame
frames_at stacks place = slice_index_or stacks place []

-- the frames in each task's array
abbrev pub deep_of : List (Option ℕ) → List (List Frame) → Deep
deep_of places stacks = map (option_map (frames_at stacks)) places

-- how many arrays are free
abbrev pub count_free : Numbers → ℕ
count_free free = count_by (λ b. b) free

-- each array is one task's or free, and there is room for one of each task
pub record IsStore (places : List (Option ℕ)) (stacks : List (List Frame)) (free : Numbers) (most_places most_stacks : ℕ) : Type 0 where
  pub few : length places ≤ 65536
  pub places_room : 65536 ≤ most_places
  pub stacks_room : 65536 ≤ most_stacks
  pub stacks_few : length stacks ≤ 65536
  pub free_wide : length free ≡ 65536
  -- each array is counted once, so where none is free there are no more than tasks that have one
  pub counted : length stacks ≡ count_by is_some places + count_free free
  pub within : (t place : ℕ) → place_at places t ≡ Some place → place < length stacks
  pub taken : (t place : ℕ) → place_at places t ≡ Some place → has free place ≡ false
  pub one_owner : (t u place : ℕ) → place_at places t ≡ Some place → place_at places u ≡ Some place → t ≡ u
  pub freed : (place : ℕ) → has free place ≡ true → place < length stacks

-- ---- What the calls do

-- how many frames a task's record has room for
abbrev pub own_frames : ℕ
own_frames = 6

-- the stack of a task: its deep one, or the one in its record
abbrev pub deep_or : (own : List Frame) → Option (List Frame) → List Frame
deep_or own None = own
deep_or own (Some frames) = frames

-- these frames, if they are a deep stack
abbrev pub if_deep : List Frame → Option (List Frame)
if_deep frames = if nat_le (length frames) own_frames then None else Some frames

-- what is left of a deep stack once its last frame is popped, if that is still deep
abbrev pub popped : Option (List Frame) → Option (List Frame)
popped None = None
popped (Some frames) = if_deep (take (length frames - 1) frames)

-- ---- The record and the deep stack

-- a record keeps the lowest frames of a deep stack
pub record IsLowest (own frames : List Frame) : Type 0 where
  pub lowest : take own_frames frames ≡ own
  pub deep : own_frames < length frames

-- a task with a deep stack is live, and its record keeps the lowest frames
abbrev pub IsRecorded : Option LegTask → Option (List Frame) → Type 0
IsRecorded o None = Unit {0}
IsRecorded None (Some frames) = ⊥
IsRecorded (Some x) (Some frames) = IsLowest x.frames frames

-- a task as it stands, by its record and its deep stack
abbrev pub with_deep : Option LegTask → Option (List Frame) → Option LegTask
with_deep None deep = None
with_deep (Some x) None = Some x
with_deep (Some x) (Some frames) = Some (record x { frames = frames })

-- each task as it stands, by the records and the deep stacks
abbrev pub with_stacks : List (Option LegTask) → (deep : ℕ → Option (List Frame)) → List (Option LegTask)
with_stacks [] deep = []
with_stacks (o ∷ records) deep = with_deep o (deep 0) ∷ with_stacks records (λ t. deep (suc t))

-- the table by its records and the deep stacks
pub record IsKept (records : List (Option LegTask)) (deep : ℕ → Option (List Frame)) (live used : Numbers) (members : Groups) : Type 0 where
  pub records_wide : length records ≡ 65536
  pub table : IsTable (with_stacks records deep) live used members
  pub open table use {slots_wide, used_wide, living, known, grouped}
  pub recorded : (t : ℕ) → IsRecorded (slice_index_or records t None) (deep t)

-- the table by its slots: no more than numbers, and room for one of each
pub record IsStored (slots : List (Option LegTask)) (capacity : ℕ) (deep : ℕ → Option (List Frame)) (live used : Numbers) (members : Groups) : Type 0 where
  pub few : length slots ≤ 65536
  pub room : 65536 ≤ capacity
  pub kept : IsKept (padded slots) deep live used members
  pub open kept use {slots_wide, used_wide, living, known, grouped}
