-- What a player does with the seats that it is given. Only private clauses cite this file.
use Rattle.std.specs.Prelude.{◌≡◌, ◌⊎◌, ℕ, ◌<◌, ◌≤◌, List, [], ◌∷◌, ◌++◌, length, All, Contains, Option, None, Some, IfSome}
use Rattle.lp_definitions.specs.declared.event.Event.{Event}
use Rattle.lp_log.specs.Audits.{brought_by, seats_of}
use Rattle.lp_log.specs.Entries.{Entry}
use Rattle.lp_log.specs.Journals.{events_in}
use Rattle.lp_log.specs.Seats.{Seated}
use Rattle.lp_threads.specs.Plays.{events_of, events_of_control}

-- of a script this was sent: its beginning, and all of it unless somebody was told that no event was left
pub record IsBegun (full : Option (List Event)) (script sent : List Event) : Type 0 where
  pub rest : List Event
  pub parts : script ≡ sent ++ rest
  pub all : full ≡ None → rest ≡ []

-- so it is of the events of the seat's task
abbrev pub IsBegunAt : Option (List Event) → List Event → Seated → Type 0
IsBegunAt full events seat = IsBegun full (events_of seat.task events) (events_in seat.entries)

-- who was told that no event was left was told of 1,000,000
abbrev pub IsFull : Option (List Event) → Type 0
IsFull full = IfSome full (λ told. 1000000 ≤ length told)

-- each child that one of these entries brought has a seat among those
abbrev pub HaveSeats : List Entry → List Seated → Type 0
HaveSeats entries seats = All (λ (entry : Entry). (child : ℕ) → brought_by entry ≡ Some child → 0 < seats_of seats child) entries

-- who had a seat has one, and nothing was sent from seats that are new
pub record Grows (before after : List Seated) : Type 0 where
  pub stay : (task : ℕ) → 0 < seats_of before task → 0 < seats_of after task
  pub new : All (λ (seat : Seated). seat.entries ≡ []) before → All (λ (seat : Seated). seat.entries ≡ []) after

-- the event was sent from the seat, and the child that it brought waits
pub record IsSentBy (event : Event) (seat back : Seated) (before after : List Seated) : Type 0 where
  pub entry : Entry
  pub its : entry.event ≡ event
  pub sent : back ≡ record seat { entries = seat.entries ++ entry ∷ [] }
  pub child : (child : ℕ) → brought_by entry ≡ Some child → 0 < seats_of after child
  pub grows : Grows before after

-- the events of the seat's task were sent from it, as far as there were some left, and the children that they brought wait
pub record HasPlayed (events : List Event) (seat back : Seated) (full : Option (List Event)) (before after : List Seated) : Type 0 where
  pub task : back.task ≡ seat.task
  pub sent : IsBegunAt full events back
  pub children : HaveSeats back.entries after
  pub grows : Grows before after

-- the seats that were given came back, with those of all children, and the events of their tasks were sent from them
pub record IsPlayed (events : List Event) (hand played : List Seated) (full : Option (List Event)) : Type 0 where
  pub sent : All (IsBegunAt full events) played
  pub room : IsFull full
  pub given : All (λ (seat : Seated). 0 < seats_of played seat.task) hand
  pub children : All (λ (seat : Seated). HaveSeats seat.entries played) played

-- who has one of these seats has one that is left, or one that a thread was given
abbrev pub AreCovered : {H : Type 0} → (H → List Seated) → List Seated → List Seated → List H → Type 0
AreCovered {H} hand seats left threads =
    (task : ℕ) → 0 < seats_of seats task → (0 < seats_of left task) ⊎ ((h : H) × Contains threads h × (0 < seats_of (hand h) task))

-- scans and control events were sent from the control
pub record IsCommanded (events : List Event) (control : List Entry) (full : Option (List Event)) : Type 0 where
  pub sent : IsBegun full (events_of_control events) (events_in control)
  pub room : IsFull full

-- the seats and the control sent these events, as far as there were some left
pub record AreBegun (full : Option (List Event)) (events : List Event) (seats : List Seated) (control : List Entry) : Type 0 where
  pub from_seats : All (IsBegunAt full events) seats
  pub from_control : IsBegun full (events_of_control events) (events_in control)
  pub room : IsFull full
