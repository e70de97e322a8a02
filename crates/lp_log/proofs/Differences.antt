-- The least difference of the seats, as one seat after another is looked at.
use Rattle.std.proofs.Common.{ℕ, ◌<◌, ◌++◌, ◌∷◌, [], List, All, Option, Some, None, IfSome, refl, arith, get_or}
use Rattle.std.proofs.lemmas.List.Elements.{All-push, Contains-append_left, Contains-push}
use Rattle.lp_log.specs.Entries.{Entry}
use Rattle.lp_log.specs.Seats.{Seated}
use Rattle.lp_log.specs.Audits.{part_of, DifferAt, IsItsPart, SeatDiffers}
use Rattle.lp_log.specs.inside.Cursors.{IsLeastDifference}

all_weaker : {A : Type 0} (P Q : A → Type 0) → ((x : A) → P x → Q x) → (xs : List A) → All P xs → All Q xs
all_weaker P Q f xs all = λ k d within. f (get_or xs k d) (all k d within)

-- a lesser task than this has its part
abbrev IsBelow : List Entry → ℕ → Seated → Type 0
IsBelow entries task other = other.task < task → IsItsPart entries other

-- the same with one seat more, that isn't before it
kept : (entries : List Entry) (before : List Seated) (seat : Seated) (task place : ℕ) → IsBelow entries task seat → SeatDiffers entries before task place → SeatDiffers entries (before ++ seat ∷ []) task place
kept entries before seat task place below h =
    record {
      seat = h.seat;
      among = Contains-append_left before (seat ∷ []) h.seat h.among;
      of_task = h.of_task;
      differs = h.differs;
      least = All-push (IsBelow entries task) before seat h.least below;
    }

pub alike_more : (entries : List Entry) (before : List Seated) (seat : Seated) (least : Option (ℕ × ℕ)) → IsItsPart entries seat → IsLeastDifference entries before least → IsLeastDifference entries (before ++ seat ∷ []) least
alike_more entries before seat None alike h = All-push (IsItsPart entries) before seat h alike
alike_more entries before seat (Some found) alike h = kept entries before seat found.0 found.1 (λ below. alike) h

pub later_more : (entries : List Entry) (before : List Seated) (seat : Seated) (least : Option (ℕ × ℕ)) → (IfSome least (λ found. seat.task < found.0) → ⊥) → IsLeastDifference entries before least → IsLeastDifference entries (before ++ seat ∷ []) least
later_more entries before seat None later h = absurd (later tt)
later_more entries before seat (Some found) later h = kept entries before seat found.0 found.1 (λ below. absurd (later below)) h

pub differs_more : (entries : List Entry) (before : List Seated) (seat : Seated) (least : Option (ℕ × ℕ)) (place : ℕ) → DifferAt seat.entries (part_of seat.task entries) place → IfSome least (λ found. seat.task < found.0) → IsLeastDifference entries before least
    → SeatDiffers entries (before ++ seat ∷ []) seat.task place
differs_more entries before seat least place differs first h =
    record {
      seat = seat;
      among = Contains-push before seat;
      of_task = refl;
      differs = differs;
      least = All-push (IsBelow entries seat.task) before seat (lesser least first h) (λ below. absurd (omega arith));
    }
  where
    lesser : (least : Option (ℕ × ℕ)) → IfSome least (λ found. seat.task < found.0) → IsLeastDifference entries before least → All (IsBelow entries seat.task) before
    lesser None first h = all_weaker (IsItsPart entries) (IsBelow entries seat.task) (λ other alike below. alike) before h
    lesser (Some found) first h = all_weaker (IsBelow entries found.0) (IsBelow entries seat.task) (λ other alike (below : other.task < seat.task). alike (omega arith)) before h.least
