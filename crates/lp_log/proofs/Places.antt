-- The places of seats, and the cursors that follow their parts.
use Rattle.std.proofs.Common.{◌≡◌, ◌≢◌, ℕ, zero, suc, ◌+◌, ◌<◌, ◌≤◌, Bool, true, false, ◌||◌, cond, List, [], ◌∷◌, ◌++◌, length, take, drop, get_or, set, replicate, nat_eq, Option, Some, None, refl, sym, ap, subst, ◌∙◌, ⊎_elim, arith, length-set}
use Rattle.std.specs.Prelude.{nat_lt}
use Rattle.std.proofs.lemmas.Bool.{eq-eqb, ne_eqb}
use Rattle.std.proofs.lemmas.Bool.Decides.{eqb_tells, nat_tests}
use Rattle.std.proofs.lemmas.List.{take-append-le, take_all, get_or-set_same, get_or-set_other, get_or-replicate, length-replicate}
use Rattle.std.proofs.lemmas.List.Sums.{sum_by-cons}
use Rattle.std.proofs.lemmas.List.Elements.{filter-append}
use Rattle.lp_log.specs.Entries.{Entry}
use Rattle.lp_log.specs.declared.cursor.Cursor.{Cursor}
use Rattle.lp_log.specs.Journals.{Written}
use Rattle.lp_log.specs.Seats.{Seated, owner}
use Rattle.lp_log.specs.Audits.{is_number, is_of, part_of, seats_of, is_stranger}
use Rattle.lp_log.specs.inside.Cursors.{Follows, seat_at, AreDistinct, place_at, ArePlaces, place_of, AllFollow, cursor_at}
use Rattle.lp_log.proofs.Following.{follows_none}

-- ---- A part, as the journal grows

part_yes : (task : ℕ) (entries : List Entry) (entry : Entry) → is_of task entry ≡ true → part_of task (entries ++ entry ∷ []) ≡ part_of task entries ++ entry ∷ []
part_yes task entries entry is = filter-append (is_of task) entries (entry ∷ []) ∙ ap (λ (b : Bool). part_of task entries ++ cond b (entry ∷ []) []) is

part_no : (task : ℕ) (entries : List Entry) (entry : Entry) → is_of task entry ≡ false → part_of task (entries ++ entry ∷ []) ≡ part_of task entries
part_no task entries entry is = filter-append (is_of task) entries (entry ∷ []) ∙ ap (λ (b : Bool). part_of task entries ++ cond b (entry ∷ []) []) is ∙ append-nil (part_of task entries)
  where
    append-nil : (xs : List Entry) → xs ++ [] ≡ xs
    append-nil [] = refl
    append-nil (x ∷ xs) = ap (λ ys. x ∷ ys) (append-nil xs)

-- ---- Places

-- the seat at the place that was found is that of the task whose event it is
own_seat : (seats : List Seated) (count : ℕ) (places : List (Option ℕ)) (whose : Option ℕ) (place : ℕ) → ArePlaces seats count places → place_of places whose ≡ Some place → (place < count) × (is_number (seat_at seats place).task whose ≡ true)
own_seat seats count places None place are e = cc
own_seat seats count places (Some task) place are e =
    let found = are.found task place e in (found.0, eq-eqb (seat_at seats place).task task found.1)

-- it is no event of a task with another seat
other_seat : (seats : List Seated) (count : ℕ) (places : List (Option ℕ)) (whose : Option ℕ) (found : Option ℕ) (i : ℕ) → ArePlaces seats count places → place_of places whose ≡ found → i < count → found ≢ Some i → is_number (seat_at seats i).task whose ≡ false
other_seat seats count places None found i are e within other = refl
other_seat seats count places (Some task) found i are e within other =
    ne_eqb (seat_at seats i).task task (λ same. other (sym e ∙ ap (place_at places) (sym same) ∙ are.all i within))

pub place_within : (seats : List Seated) (count : ℕ) (places : List (Option ℕ)) (whose : Option ℕ) (place : ℕ) → ArePlaces seats count places → place_of places whose ≡ Some place → place < count
place_within seats count places whose place are e = (own_seat seats count places whose place are e).0

pub all_follow_at : (before : List Entry) (entry : Entry) (seats : List Seated) (places : List (Option ℕ)) (cursors : List Cursor) (place : ℕ) (sent : List Entry) (cursor next : Cursor)
    → ArePlaces seats (length seats) places → place_of places (owner entry.event) ≡ Some place → sent ≡ (seat_at seats place).entries → cursor ≡ get_or cursors place cursor
    → ((part : List Entry) → Follows sent part cursor → Follows sent (part ++ entry ∷ []) next)
    → AllFollow before seats cursors → AllFollow (before ++ entry ∷ []) seats (set cursors place next)
all_follow_at before entry seats places cursors place sent cursor next are e sent_is cursor_is step all =
    record {
      count = length-set _ _ _ ∙ all.count;
      each = λ i within d. ⊎_elim (λ is. same i d is.1) (λ is. others i within d is.1) (eqb_tells i place);
    }
  where
    own : (place < length seats) × (is_number (seat_at seats place).task (owner entry.event) ≡ true)
    own = own_seat seats (length seats) places (owner entry.event) place are e

    task : ℕ
    task = (seat_at seats place).task

    there : (d : Cursor) → Follows (seat_at seats place).entries (part_of (seat_at seats place).task (before ++ entry ∷ [])) (get_or (set cursors place next) place d)
    there d =
        let at : place < length cursors = omega (arith, own.0, all.count) in
        let now : Follows sent (part_of (seat_at seats place).task before) cursor =
        subst (λ (es : List Entry). Follows es (part_of (seat_at seats place).task before) cursor) (sym sent_is)
        (subst (λ (c : Cursor). Follows (seat_at seats place).entries (part_of (seat_at seats place).task before) c) (sym cursor_is) (all.each place own.0 cursor)) in
        subst (λ (c : Cursor). Follows (seat_at seats place).entries (part_of (seat_at seats place).task (before ++ entry ∷ [])) c) (sym (get_or-set_same cursors place next d at))
        (subst (λ (es : List Entry). Follows es (part_of (seat_at seats place).task (before ++ entry ∷ [])) next) sent_is
        (subst (λ (part : List Entry). Follows sent part next) (sym (part_yes (seat_at seats place).task before entry own.1)) (step (part_of (seat_at seats place).task before) now)))

    same : (i : ℕ) (d : Cursor) → i ≡ place → Follows (seat_at seats i).entries (part_of (seat_at seats i).task (before ++ entry ∷ [])) (get_or (set cursors place next) i d)
    same i d is = subst (λ (k : ℕ). Follows (seat_at seats k).entries (part_of (seat_at seats k).task (before ++ entry ∷ [])) (get_or (set cursors place next) k d)) (sym is) (there d)

    others : (i : ℕ) → i < length seats → (d : Cursor) → i ≢ place → Follows (seat_at seats i).entries (part_of (seat_at seats i).task (before ++ entry ∷ [])) (get_or (set cursors place next) i d)
    others i within d other =
        let not_its = other_seat seats (length seats) places (owner entry.event) (Some place) i are e within (λ (q : Some place ≡ Some i). other (sym (some_same place i q))) in
        subst (λ (c : Cursor). Follows (seat_at seats i).entries (part_of (seat_at seats i).task (before ++ entry ∷ [])) c) (sym (get_or-set_other cursors place i next d other))
        (subst (λ (part : List Entry). Follows (seat_at seats i).entries part (get_or cursors i d)) (sym (part_no (seat_at seats i).task before entry not_its)) (all.each i within d))
      where
        some_same : (a b : ℕ) → Some a ≡ Some b → a ≡ b
        some_same a b q = cc

pub all_follow_none : (before : List Entry) (entry : Entry) (seats : List Seated) (places : List (Option ℕ)) (cursors : List Cursor)
    → ArePlaces seats (length seats) places → place_of places (owner entry.event) ≡ None → AllFollow before seats cursors → AllFollow (before ++ entry ∷ []) seats cursors
all_follow_none before entry seats places cursors are e all =
    record {
      count = all.count;
      each = λ i within d.
          let not_its = other_seat seats (length seats) places (owner entry.event) None i are e within (λ (q : None ≡ Some i). cc) in
          subst (λ (part : List Entry). Follows (seat_at seats i).entries part (get_or cursors i d)) (sym (part_no (seat_at seats i).task before entry not_its)) (all.each i within d);
    }

-- a table without places stays one where it grows by none
pub none_more : (places : List (Option ℕ)) → ((task : ℕ) → place_at places task ≡ None) → (task : ℕ) → place_at (places ++ None ∷ []) task ≡ None
none_more [] none zero = refl
none_more [] none (suc task) = refl
none_more (place ∷ places) none zero = none zero
none_more (place ∷ places) none (suc task) = none_more places (λ t. none (suc t)) task

-- no place is known yet
pub no_places : (seats : List Seated) (places : List (Option ℕ)) → length places ≡ 65536 → ((task : ℕ) → place_at places task ≡ None) → ArePlaces seats 0 places
no_places seats places wide none =
    record {
      wide = wide;
      all = λ i within. absurd (omega arith);
      found = λ task i e. absurd (no_some i (sym (none task) ∙ e));
    }
  where
    no_some : (i : ℕ) → None ≡ Some i → ⊥
    no_some i e = cc

-- what a function writes to a whole list
pub wrote_all : (n : ℕ) (new old : List Cursor) → n ≡ length old → length new ≡ length old → take n (new ++ drop (length new) old) ≡ new
wrote_all n new old is same =
    take-append-le n new (drop (length new) old) (omega arith) ∙ take_all n new (omega arith)

starts_at : (n i : ℕ) (d : Cursor) → i < n → get_or (replicate n (cursor_at 0 false)) i d ≡ cursor_at 0 false
starts_at n i d within = get_or-replicate n i (cursor_at 0 false) d within

-- before the first entry
pub all_follow_none_yet : (seats : List Seated) → AllFollow [] seats (replicate (length seats) (cursor_at 0 false))
all_follow_none_yet seats =
    record {
      count = length-replicate (length seats) (cursor_at 0 false);
      each = λ i within d. subst (λ (c : Cursor). Follows (seat_at seats i).entries [] c) (sym (starts_at (length seats) i d within)) (follows_none (seat_at seats i).entries);
    }

-- one seat more has its place
pub places_more : (seats : List Seated) (count : ℕ) (places : List (Option ℕ)) (task : ℕ) → AreDistinct seats → count < length seats → task < 65536 → task ≡ (seat_at seats count).task
    → ArePlaces seats count places → ArePlaces seats (count + 1) (set places task (Some count))
places_more seats count places task distinct within fits is are =
    record {
      wide = length-set _ _ _ ∙ are.wide;
      all = λ i below. ⊎_elim (λ q. newest i q.1) (λ q. older i (omega (arith, q.1)) q.1) (eqb_tells i count);
      found = λ t i e. ⊎_elim (λ q. here t i q.1 e) (λ q. there t i q.1 e) (eqb_tells t task);
    }
  where
    at : task < length places
    at = omega (arith, fits, are.wide)

    newest : (i : ℕ) → i ≡ count → place_at (set places task (Some count)) (seat_at seats i).task ≡ Some i
    newest i q = subst (λ (k : ℕ). place_at (set places task (Some count)) (seat_at seats k).task ≡ Some k) (sym q) (ap (place_at (set places task (Some count))) (sym is) ∙ get_or-set_same places task (Some count) None at)

    older : (i : ℕ) → i < count → i ≢ count → place_at (set places task (Some count)) (seat_at seats i).task ≡ Some i
    older i below q = get_or-set_other places task (seat_at seats i).task (Some count) None (λ same. q (distinct i count (omega arith) within (same ∙ is))) ∙ are.all i below

    here : (t i : ℕ) → t ≡ task → place_at (set places task (Some count)) t ≡ Some i → (i < count + 1) × ((seat_at seats i).task ≡ t)
    here t i q e =
        let now : Some count ≡ Some i = sym (get_or-set_same places task (Some count) None at) ∙ ap (place_at (set places task (Some count))) (sym q) ∙ e in
        let k : count ≡ i = cc in (
          omega arith,
          ap (λ (j : ℕ). (seat_at seats j).task) (sym k) ∙ sym is ∙ sym q,
        )

    there : (t i : ℕ) → t ≢ task → place_at (set places task (Some count)) t ≡ Some i → (i < count + 1) × ((seat_at seats i).task ≡ t)
    there t i q e =
        let found = are.found t i (sym (get_or-set_other places task t (Some count) None q) ∙ e) in (omega (arith, found.0), found.1)

-- ---- Distinct seats

pub seats_first : (task : ℕ) (seat : Seated) (seats : List Seated) → seats_of (seat ∷ seats) task ≡ cond (nat_eq task seat.task) 1 0 + seats_of seats task
seats_first task seat seats = sum_by-cons (λ (s : Seated). cond (nat_eq task s.task) 1 0) seat seats

some_of : (task : ℕ) (seats : List Seated) (i : ℕ) → i < length seats → task ≡ (seat_at seats i).task → 0 < seats_of seats task
some_of task [] i within is = absurd (omega arith)
some_of task (seat ∷ seats) zero within is = let t : nat_eq task seat.task ≡ true = eq-eqb task seat.task is in
    let n : seats_of (seat ∷ seats) task ≡ 1 + seats_of seats task = seats_first task seat seats ∙ ap (λ (b : Bool). cond b 1 0 + seats_of seats task) t in omega arith
some_of task (seat ∷ seats) (suc i) within is = let more = some_of task seats i (omega arith) is in
    let n = seats_first task seat seats in omega arith

one_of : (task : ℕ) (seats : List Seated) (i j : ℕ) → seats_of seats task ≤ 1 → i < length seats → j < length seats → task ≡ (seat_at seats i).task → task ≡ (seat_at seats j).task → i ≡ j
one_of task [] i j few a b p q = absurd (omega arith)
one_of task (seat ∷ seats) zero zero few a b p q = refl
one_of task (seat ∷ seats) zero (suc j) few a b p q =
    let t : nat_eq task seat.task ≡ true = eq-eqb task seat.task p in
    let more = some_of task seats j (omega arith) q in
    let n : seats_of (seat ∷ seats) task ≡ 1 + seats_of seats task = seats_first task seat seats ∙ ap (λ (b : Bool). cond b 1 0 + seats_of seats task) t in
    absurd (omega arith)
one_of task (seat ∷ seats) (suc i) zero few a b p q =
    let t : nat_eq task seat.task ≡ true = eq-eqb task seat.task q in
    let more = some_of task seats i (omega arith) p in
    let n : seats_of (seat ∷ seats) task ≡ 1 + seats_of seats task = seats_first task seat seats ∙ ap (λ (b : Bool). cond b 1 0 + seats_of seats task) t in
    absurd (omega arith)
one_of task (seat ∷ seats) (suc i) (suc j) few a b p q =
    let n = seats_first task seat seats in
    let less : seats_of seats task ≤ 1 = omega arith in
    ap suc (one_of task seats i j less (omega arith) (omega arith) p q)

-- where there is no stranger the seats are of different tasks
pub distinct_of : (journal : Written) (seats : List Seated) → ((task : ℕ) → is_stranger journal seats task ≡ false) → AreDistinct seats
distinct_of journal seats none i j a b same =
    one_of (seat_at seats i).task seats i j (few_of _ _ (none (seat_at seats i).task)) a b refl same
  where
    few_of : (n : ℕ) (rest : Bool) → (nat_lt 1 n || rest) ≡ false → n ≤ 1
    few_of n rest e = grind (arith, nat_tests, e)
