-- A book with who owns which part of its journal.
use Rattle.std.specs.Prelude.{◌≡◌, ℕ, ◌<◌, Bool, true, false, ◌||◌, List, [], ◌∷◌, ◌++◌, Option, Some, None, All, nat_eq}
use Rattle.std.specs.List.{list_any}
use Rattle.atomic_table.specs.Seated.{TableId}
use Rattle.lp_stack.specs.declared.number.TaskId.{TaskId}
use Rattle.lp_stack.specs.declared.view.Class.{Class}
use Rattle.lp_model.specs.Rules.{Rules}
use Rattle.lp_definitions.specs.declared.event.Event.{Event}
use Rattle.lp_definitions.specs.declared.reply.Reply.{Reply}
use Rattle.lp_definitions.specs.Tasks.{is_unused}
use Rattle.lp_transition.specs.Boot.{boot_refusal}
use Rattle.lp_board.specs.Blanks.{BlankStart}
use Rattle.lp_board.specs.Names.{Name, state_after}
use Rattle.lp_log.specs.Audits.{IsItsPart, NoStranger, brought_by, control_part, is_number, is_of, part_of, seats_of, was_used}
use Rattle.lp_log.specs.Entries.{Entry}
use Rattle.lp_log.specs.Journals.{Written, and_entry, events_in, next_entry}
use Rattle.lp_log.specs.Seats.{Seated, and_sent, owner}
use Rattle.lp_desk.specs.Books.{IsSent}
use Rattle.lp_parts.specs.Parts.{Among, Whole}

-- the task whose entry it is; none for a scan and for a control event
abbrev pub key_of : Entry → Option ℕ
key_of entry = owner entry.event

-- how a desk starts, and which list the parts of its journal are of
pub record OwnedStart : Type 0 where
  pub start : BlankStart
  pub table : TableId

-- ---- What a call says

-- the event came after this journal, of which the seat's list was its task's part, and still is with the one entry more
pub record IsSentAs (name : Name) (rules : Rules) (before : Written) (event : Event) (given : Reply) (published : List Event) (seat after : Seated) : Type 0 where
  pub sent : IsSent name rules before event given published
  pub part : seat.entries ≡ part_of seat.task before.entries
  pub one_more : after ≡ and_sent seat (next_entry before.entries event given)
  pub still : after.entries ≡ part_of seat.task (and_entry before event given).entries

-- the same of the control's list
pub record IsCommandedAs (name : Name) (rules : Rules) (before : Written) (event : Event) (given : Reply) (published : List Event) (control after : List Entry) : Type 0 where
  pub sent : IsSent name rules before event given published
  pub part : control ≡ control_part before.entries
  pub one_more : after ≡ control ++ next_entry before.entries event given ∷ []
  pub still : after ≡ control_part (and_entry before event given).entries

-- ---- What a close says

-- there is no stranger, and what was sent from the seats and from the control is what the journal has of them
pub record AreParts (journal : Written) (seats : List Seated) (control : List Entry) : Type 0 where
  pub no_stranger : NoStranger journal seats control
  pub seats_same : All (IsItsPart journal.entries) seats
  pub control_same : control ≡ control_part journal.entries

-- there is a seat of each task of the start, and of each child that an entry of one of the seats brought
pub record AreAllIn (boots : List (TaskId × Class)) (seats : List Seated) : Type 0 where
  pub first : All (λ (boot : TaskId × Class). 0 < seats_of seats boot.0.0) boots
  pub children : All (λ (seat : Seated). All (λ (entry : Entry). (child : ℕ) → brought_by entry ≡ Some child → 0 < seats_of seats child) seat.entries) seats

-- ---- What a book keeps

-- a task of the start has the number
abbrev pub is_boot : List (TaskId × Class) → ℕ → Bool
is_boot boots task = list_any (λ (boot : TaskId × Class). nat_eq task boot.0.0) boots

-- the entry is of a task that had its number, and a child that it brought has a number that no task had
pub record IsOfUsed (used : ℕ → Bool) (entry : Entry) : Type 0 where
  pub sender : (t : ℕ) → owner entry.event ≡ Some t → used t ≡ true
  pub child : (c : ℕ) → brought_by entry ≡ Some c → used c ≡ false

-- so is each of these entries, by the tasks that there were before it
abbrev pub InTurn : (ℕ → Bool) → List Entry → Type 0
InTurn used [] = Unit {0}
InTurn used (entry ∷ entries) =
    IsOfUsed used entry × InTurn (λ (t : ℕ). used t || is_number t (brought_by entry)) entries

-- nothing was sent from these seats, and no two are of one task
abbrev pub EachNew : List Seated → Type 0
EachNew seats =
    (before after : List Seated) (seat : Seated) → before ++ seat ∷ after ≡ seats
    → (seat.entries ≡ []) × (list_any (λ (other : Seated). nat_eq seat.task other.task) before ≡ false)

-- the keeper has the journal's entries. Each part that somebody owns, and each entry of a task, is of a task that had its
-- number, and a number that a task had is used where the run stands
pub record IsKept (name : Name) (journal : Written) (whole : Whole Entry) : Type 0 where
  pub boots : boot_refusal journal.boots ≡ None
  pub all : whole.all ≡ journal.entries
  pub out : (t : ℕ) → Among (Some t) whole.out → was_used journal t ≡ true
  pub entries : (t : ℕ) → list_any (is_of t) journal.entries ≡ true → was_used journal t ≡ true
  pub used : (t : ℕ) → was_used journal t ≡ true → is_unused ((state_after name (events_in journal.entries)).tasks t) ≡ false
  pub in_turn : InTurn (is_boot journal.boots) journal.entries
