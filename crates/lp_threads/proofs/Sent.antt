-- Where the journal has as many events as the trace, all were sent.
use Rattle.std.proofs.Common.{◌≡◌, ◌⊎◌, ℕ, zero, suc, ◌+◌, ◌<◌, ◌≤◌, Bool, true, false, cond, List, [], ◌∷◌, ◌++◌, length, map, get_or, nat_eq, not, is_some, Option, Some, None, refl, sym, ap, subst, ◌∙◌, ⊎_elim, inl, inr, arith, length-append}
use Rattle.std.specs.Prelude.{All, IfSome, filter}
use mathlib.Core.List.{IsPrefix}
use Rattle.lp_board.proofs.Prefixes.{prefix_length}
use Rattle.std.proofs.lemmas.Bool.{eqb-true}
use Rattle.std.proofs.lemmas.List.{length-map}
use Rattle.std.proofs.lemmas.List.Elements.{All-head, All-tail}
use Rattle.lp_definitions.specs.declared.event.Event.{Event}
use Rattle.lp_log.specs.Audits.{AllBelong, IsClosed, IsItsPart, control_part, is_nobodys, is_number, is_of, part_of, seats_of}
use Rattle.lp_log.specs.Entries.{Entry}
use Rattle.lp_log.specs.Journals.{Written, events_in}
use Rattle.lp_log.specs.Seats.{Seated, owner}
use Rattle.lp_log.proofs.Covered.{all_belong}
use Rattle.lp_log.proofs.Places.{seats_first}
use Rattle.lp_owned.proofs.Back.{nothing_left}
use Rattle.lp_threads.specs.Plays.{AreSent, events_of, events_of_control}
use Rattle.lp_threads.specs.inside.Players.{AreBegun, IsBegun, IsBegunAt}
use Rattle.lp_threads.proofs.Counting.{bit, count, counted, key_is, none_left, same_key}

-- whose the events are, and whose the entries
abbrev whose : List Event → List (Option ℕ)
whose events = map owner events

abbrev whose_in : List Entry → List (Option ℕ)
whose_in entries = map (λ (entry : Entry). owner entry.event) entries

task_is : (t : ℕ) (o : Option ℕ) → is_number t o ≡ same_key (Some t) o
task_is t None = refl
task_is t (Some u) = refl

none_is : (o : Option ℕ) → not (is_some o) ≡ same_key None o
none_is None = refl
none_is (Some u) = refl

of_task : (t : ℕ) (events : List Event) → length (events_of t events) ≡ count (Some t) (whose events)
of_task t events = counted owner (λ (e : Event). is_number t (owner e)) (Some t) (λ e. task_is t (owner e)) events

of_nobody : (events : List Event) → length (events_of_control events) ≡ count None (whose events)
of_nobody events = counted owner (λ (e : Event). not (is_some (owner e))) None (λ e. none_is (owner e)) events

part_count : (t : ℕ) (entries : List Entry) → length (part_of t entries) ≡ count (Some t) (whose_in entries)
part_count t entries = counted (λ (e : Entry). owner e.event) (is_of t) (Some t) (λ e. task_is t (owner e.event)) entries

control_count : (entries : List Entry) → length (control_part entries) ≡ count None (whose_in entries)
control_count entries = counted (λ (e : Entry). owner e.event) is_nobodys None (λ e. none_is (owner e.event)) entries

-- a task without a seat has no entry
no_entry : (seats : List Seated) (t : ℕ) (entries : List Entry) → AllBelong entries seats → seats_of seats t ≡ 0 → count (Some t) (whose_in entries) ≡ 0
no_entry seats t [] belong none = refl
no_entry seats t (e ∷ es) belong none = at (same_key (Some t) (owner e.event)) refl (no_entry seats t es (All-tail Belongs e es belong) none)
  where
    Belongs : Entry → Type 0
    Belongs entry = (task : ℕ) → owner entry.event ≡ Some task → 0 < seats_of seats task

    at : (b : Bool) → same_key (Some t) (owner e.event) ≡ b → count (Some t) (whose_in es) ≡ 0 → count (Some t) (whose_in (e ∷ es)) ≡ 0
    at true is rest =
        let some = All-head Belongs e es belong t (sym (key_is (Some t) (owner e.event) is)) in
        absurd (omega (arith, some, none))
    at false is rest =
        let none : bit (same_key (Some t) (owner e.event)) ≡ 0 = ap bit is in
        let sum : count (Some t) (whose_in (e ∷ es)) ≡ bit (same_key (Some t) (owner e.event)) + count (Some t) (whose_in es) = refl in
        omega (arith, none, sum, rest)

-- what holds of each seat holds of the task's
of_seat : (seats : List Seated) (t : ℕ) (P : Seated → Type 0) → All P seats → 0 < seats_of seats t → (seat : Seated) × (seat.task ≡ t) × P seat
of_seat [] t P all some = absurd (omega (arith, some))
of_seat (seat ∷ seats) t P all some = at (nat_eq t seat.task) refl (λ n. of_seat seats t P (All-tail P seat seats all) n)
  where
    at : (b : Bool) → nat_eq t seat.task ≡ b → (0 < seats_of seats t → (s : Seated) × (s.task ≡ t) × P s) → (s : Seated) × (s.task ≡ t) × P s
    at true e rest = (seat, sym (eqb-true t seat.task e), All-head P seat seats all)
    at false e rest =
        let n : seats_of (seat ∷ seats) t ≡ 0 + seats_of seats t = seats_first t seat seats ∙ ap (λ (b : Bool). cond b 1 0 + seats_of seats t) e in
        rest (omega (arith, n, some))

some_or_none : (n : ℕ) → (0 < n) ⊎ (n ≡ 0)
some_or_none zero = inr refl
some_or_none (suc n) = inl (omega arith)

-- a seat that sent the beginning of its script, where the journal has as much of it as there is
whole : (full : Option (List Event)) (script : List Event) (sent : List Entry) → IsBegun full script (events_in sent) → length script ≤ length sent → events_in sent ≡ script
whole full script sent begun all =
    let a : length script ≡ length (events_in sent ++ begun.rest) = ap length begun.parts in
    let b : length (events_in sent ++ begun.rest) ≡ length (events_in sent) + length begun.rest = length-append (events_in sent) begun.rest in
    let c : length (events_in sent) ≡ length sent = length-map sent (λ (e : Entry). e.event) in
    let none : begun.rest ≡ [] = nothing_left begun.rest (omega (arith, a, b, c, all)) in
    sym (begun.parts ∙ ap (λ (rest : List Event). events_in sent ++ rest) none ∙ append_nothing (events_in sent))
  where
    append_nothing : (xs : List Event) → xs ++ [] ≡ xs
    append_nothing [] = refl
    append_nothing (x ∷ xs) = ap (λ (ys : List Event). x ∷ ys) (append_nothing xs)

begins : (full : Option (List Event)) (script : List Event) (sent : List Entry) → IsBegun full script (events_in sent) → length sent ≤ length script
begins full script sent begun =
    let a : length script ≡ length (events_in sent ++ begun.rest) = ap length begun.parts in
    let b : length (events_in sent ++ begun.rest) ≡ length (events_in sent) + length begun.rest = length-append (events_in sent) begun.rest in
    let c : length (events_in sent) ≡ length sent = length-map sent (λ (e : Entry). e.event) in
    omega (arith, a, b, c)

module _ (events : List Event) (journal : Written) (seats : List Seated) (control : List Entry) (full : Option (List Event)) (closed : IsClosed journal seats control) (begun : AreBegun full events seats control) where
  -- the journal has no more of anybody's events than there are
  few : (k : Option ℕ) → count k (whose_in journal.entries) ≤ count k (whose events)
  few None =
      let a = control_count journal.entries in
      let b = of_nobody events in
      let c : length control ≡ length (control_part journal.entries) = ap length closed.control_same in
      let d = begins full (events_of_control events) control begun.from_control in
      omega (arith, a, b, c, d)
  few (Some t) =
      ⊎_elim
      (λ (some : 0 < seats_of seats t).
      let both : All (λ (seat : Seated). IsItsPart journal.entries seat × IsBegunAt full events seat) seats = λ κ d within. (closed.seats_same κ d within, begun.from_seats κ d within) in
      let found = of_seat seats t (λ (seat : Seated). IsItsPart journal.entries seat × IsBegunAt full events seat) both some in
      let seat = found.0 in
      subst (λ (u : ℕ). count (Some u) (whose_in journal.entries) ≤ count (Some u) (whose events)) found.1
      (let a = part_count seat.task journal.entries in
      let b = of_task seat.task events in
      let c : length seat.entries ≡ length (part_of seat.task journal.entries) = ap length found.2.0 in
      let d = begins full (events_of seat.task events) seat.entries found.2.1 in
      omega (arith, a, b, c, d)))
      (λ (none : seats_of seats t ≡ 0).
      let a = no_entry seats t journal.entries (all_belong journal seats closed.no_stranger closed.none_missing) none in
      omega (arith, a))
      (some_or_none (seats_of seats t))

  pub all_sent : length events ≤ length journal.entries → AreSent events seats control
  all_sent many = record {
    from_seats = λ κ d within.
        let seat = get_or seats κ d in
        let a = part_count seat.task journal.entries in
        let b = of_task seat.task events in
        let c : length seat.entries ≡ length (part_of seat.task journal.entries) = ap length (closed.seats_same κ d within) in
        let e = as_many (Some seat.task) in
        whole full (events_of seat.task events) seat.entries (begun.from_seats κ d within) (omega (arith, a, b, c, e));
    from_control =
        let a = control_count journal.entries in
        let b = of_nobody events in
        let c : length control ≡ length (control_part journal.entries) = ap length closed.control_same in
        let e = as_many None in
        whole full (events_of_control events) control begun.from_control (omega (arith, a, b, c, e));
  }
    where
      as_many : (k : Option ℕ) → count k (whose events) ≤ count k (whose_in journal.entries)
      as_many k =
          none_left (whose_in journal.entries) (whose events) few
          (let a = length-map journal.entries (λ (e : Entry). owner e.event) in
          let b = length-map events owner in
          omega (arith, a, b, many)) k

-- nobody was told that no event was left
none_told : (full : Option (List Event)) (script sent : List Event) → full ≡ None → IsBegun full script sent → sent ≡ script
none_told full script sent none begun = sym (begun.parts ∙ ap (λ (rest : List Event). sent ++ rest) (begun.all none) ∙ append_nothing sent)
  where
    append_nothing : (xs : List Event) → xs ++ [] ≡ xs
    append_nothing [] = refl
    append_nothing (x ∷ xs) = ap (λ (ys : List Event). x ∷ ys) (append_nothing xs)

pub sent_at_once : (events : List Event) (seats : List Seated) (control : List Entry) (full : Option (List Event)) → full ≡ None → AreBegun full events seats control → AreSent events seats control
sent_at_once events seats control full none begun = record {
  from_seats = λ κ d within. none_told full _ _ none (begun.from_seats κ d within);
  from_control = none_told full _ _ none begun.from_control;
}

-- all were sent, whether or not somebody was told that no event was left
pub sent_in : (events : List Event) (journal : Written) (seats : List Seated) (control : List Entry) (full : Option (List Event)) (all : List Event)
    → IsClosed journal seats control → AreBegun full events seats control → all ≡ events_in journal.entries → IfSome full (λ (told : List Event). IsPrefix told all) → length events ≤ 1000000 → AreSent events seats control
sent_in events journal seats control None all closed begun is within few = sent_at_once events seats control None refl begun
sent_in events journal seats control (Some told) all closed begun is within few =
    let a : 1000000 ≤ length told = begun.room in
    let b : length told ≤ length all = prefix_length told all within in
    let c : length all ≡ length (events_in journal.entries) = ap length is in
    let d : length (events_in journal.entries) ≡ length journal.entries = length-map journal.entries (λ (e : Entry). e.event) in
    all_sent events journal seats control (Some told) closed begun (omega (arith, a, b, c, d, few))
