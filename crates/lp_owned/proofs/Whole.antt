-- Seats that are all in are as many as were given out.
use Rattle.std.proofs.Common.{◌≡◌, ◌⊎◌, ℕ, suc, zero, ◌+◌, ◌<◌, ◌≤◌, Bool, true, false, not, ◌||◌, ◌&&◌, cond, List, [], ◌∷◌, ◌++◌, length, map, get_or, nat_eq, Option, Some, None, if◌then◌else◌, refl, sym, ap, subst, ◌∙◌, ⊎_elim, inl, inr, arith}
use Rattle.std.specs.Prelude.{All, filter, nat_lt}
use Rattle.std.specs.List.{list_any, filter_map, cons_option}
use Rattle.std.proofs.lemmas.Bool.{cond-false, cond-true, eqb-true, eq-eqb}
use Rattle.std.proofs.lemmas.Bool.Decides.{nat_tests}
use Rattle.std.proofs.lemmas.List.Elements.{All-cons, All-head, All-nil, All-same, All-tail}
use Rattle.std.proofs.lemmas.List.Folds.{list_any-append}
use Rattle.lp_stack.specs.declared.number.TaskId.{TaskId}
use Rattle.lp_stack.specs.declared.view.Class.{Class}
use Rattle.lp_definitions.specs.declared.event.Event.{Event}
use Rattle.lp_definitions.specs.declared.event.Event.TheVariants.{Call, Ret, Sleep, Wake, Enter, Exit, Idle, Resched, Fork, Die, Walk, Stop, Enable, Disable, Reverse}
use Rattle.lp_definitions.specs.declared.reply.What.{What}
use Rattle.lp_transition.specs.Boot.{boot_fault, boot_refusal}
use Rattle.lp_log.specs.Audits.{IsClosed, IsItsPart, NoStranger, brought_by, given_out, is_number, is_of, part_of, seats_of, was_used}
use Rattle.lp_log.specs.Entries.{Entry}
use Rattle.lp_log.specs.Journals.{Written}
use Rattle.lp_log.specs.Seats.{Seated, brought, owner}
use Rattle.lp_log.proofs.Covered.{Distinct, a_seat, distinct_tasks, has, length_tasks, length_used, no_more, tasks_of, used_is, used_tasks}
use Rattle.lp_log.proofs.Places.{seats_first}
use Rattle.lp_model.specs.Rules.{Rules}
use Rattle.lp_board.specs.Names.{Name}
use Rattle.lp_desk.specs.Books.{IsOf}
use Rattle.lp_parts.specs.Parts.{Among, Whole, part_for}
use Rattle.lp_owned.specs.Owned.{AreAllIn, AreParts, InTurn, IsKept, is_boot, key_of}
use Rattle.lp_owned.proofs.Kept.{nobodys_part_is, part_is}
use Rattle.lp_owned.proofs.Turns.{fit, or_none}

or_first : (a b : Bool) → a ≡ true → (a || b) ≡ true
or_first true b e = refl
or_first false b e = absurd (cc)

or_second : (a b : Bool) → b ≡ true → (a || b) ≡ true
or_second true b e = refl
or_second false b e = e

or_either : (a b : Bool) → (a || b) ≡ true → (a ≡ true) ⊎ (b ≡ true)
or_either true b e = inl refl
or_either false b e = inr e

clash : (b : Bool) → b ≡ true → b ≡ false → ⊥
clash true e f = cc
clash false e f = cc

-- ---- Nobody is a stranger

not_strange : (n : ℕ) (used any : Bool) → n ≤ 1 → (0 < n → used ≡ true) → (any ≡ true → used ≡ true) → (nat_lt 1 n || (not used && (nat_lt 0 n || any))) ≡ false
not_strange n true any few seat entry = grind (arith, nat_tests, few)
not_strange n false true few seat entry = absurd (let t = entry refl in cc)
not_strange zero false false few seat entry = refl
not_strange (suc n) false false few seat entry = absurd (let t = seat (omega arith) in cc)

pub no_stranger : (journal : Written) (seats : List Seated) (control : List Entry) → ((t : ℕ) → seats_of seats t ≤ 1) → ((t : ℕ) → 0 < seats_of seats t → was_used journal t ≡ true)
    → ((t : ℕ) → list_any (is_of t) journal.entries ≡ true → was_used journal t ≡ true) → NoStranger journal seats control
no_stranger journal seats control few seated entries t = not_strange (seats_of seats t) (was_used journal t) (list_any (is_of t) journal.entries) (few t) (seated t) (entries t)

-- ---- No number is given twice

distinct_boots : (before boots : List (TaskId × Class)) → boot_fault before boots ≡ None
    → Distinct (map (λ (boot : TaskId × Class). boot.0.0) boots) × ((x : ℕ) → is_boot before x ≡ true → has x (map (λ (boot : TaskId × Class). boot.0.0) boots) ≡ false)
unfolding Distinct
distinct_boots before [] free = (tt, λ x is. refl)
distinct_boots before (boot ∷ boots) free =
    let one = fit before boot boots free in
    let more = distinct_boots (before ++ boot ∷ []) boots one.1 in
    let longer : (x : ℕ) → is_boot (before ++ boot ∷ []) x ≡ (is_boot before x || (nat_eq x boot.0.0 || false)) = λ x. list_any-append (λ (other : TaskId × Class). nat_eq x other.0.0) before (boot ∷ []) in (
      (more.1 boot.0.0 (longer boot.0.0 ∙ or_second (is_boot before boot.0.0) _ (or_first (nat_eq boot.0.0 boot.0.0) false (eq-eqb boot.0.0 boot.0.0 refl))), more.0),
      λ x is. other x (nat_eq x boot.0.0) refl one.0 is (more.1 x (longer x ∙ or_first (is_boot before x) _ is)),
    )
  where
    other : (x : ℕ) (b : Bool) → nat_eq x boot.0.0 ≡ b → is_boot before boot.0.0 ≡ false → is_boot before x ≡ true → has x (map (λ (boot : TaskId × Class). boot.0.0) boots) ≡ false → (nat_eq x boot.0.0 || has x (map (λ (boot : TaskId × Class). boot.0.0) boots)) ≡ false
    other x true e new is rest = absurd (clash (is_boot before boot.0.0) (ap (is_boot before) (sym (eqb-true x boot.0.0 e)) ∙ is) new)
    other x false e new is rest = ap (λ (b : Bool). b || has x (map (λ (boot : TaskId × Class). boot.0.0) boots)) e ∙ rest

distinct_children : (used : ℕ → Bool) (entries : List Entry) → InTurn used entries
    → Distinct (filter_map brought_by entries) × ((x : ℕ) → used x ≡ true → has x (filter_map brought_by entries) ≡ false)
unfolding Distinct
distinct_children used [] turn = (tt, λ x is. refl)
distinct_children used (e ∷ es) turn = at (brought_by e) refl (distinct_children (λ (t : ℕ). used t || is_number t (brought_by e)) es turn.1)
  where
    other : (c x : ℕ) (b : Bool) → nat_eq x c ≡ b → used c ≡ false → used x ≡ true → has x (filter_map brought_by es) ≡ false → (nat_eq x c || has x (filter_map brought_by es)) ≡ false
    other c x true e new is rest = absurd (clash (used c) (ap used (sym (eqb-true x c e)) ∙ is) new)
    other c x false e new is rest = ap (λ (b : Bool). b || has x (filter_map brought_by es)) e ∙ rest

    at : (o : Option ℕ) → brought_by e ≡ o → Distinct (filter_map brought_by es) × ((x : ℕ) → (used x || is_number x (brought_by e)) ≡ true → has x (filter_map brought_by es) ≡ false)
        → Distinct (cons_option o (filter_map brought_by es)) × ((x : ℕ) → used x ≡ true → has x (cons_option o (filter_map brought_by es)) ≡ false)
    at None none more = (more.0, λ x is. more.1 x (or_first (used x) _ is))
    at (Some c) some more = (
      (more.1 c (or_second (used c) _ (ap (is_number c) some ∙ eq-eqb c c refl)), more.0),
      λ x is. other c x (nat_eq x c) refl (turn.0.child c some) is (more.1 x (or_first (used x) _ is)),
    )

distinct_both : (xs ys : List ℕ) → Distinct xs → Distinct ys → ((x : ℕ) → has x xs ≡ true → has x ys ≡ false) → Distinct (xs ++ ys)
unfolding Distinct
distinct_both [] ys one two apart = two
distinct_both (x ∷ xs) ys one two apart = (
  list_any-append (nat_eq x) xs ys ∙ ap (λ (b : Bool). b || has x ys) one.0 ∙ apart x (or_first (nat_eq x x) _ (eq-eqb x x refl)),
  distinct_both xs ys one.1 two (λ z is. apart z (or_second (nat_eq z x) _ is)),
)

boot_is : (x : ℕ) (boots : List (TaskId × Class)) → has x (map (λ (boot : TaskId × Class). boot.0.0) boots) ≡ is_boot boots x
boot_is x [] = refl
boot_is x (boot ∷ boots) = ap (λ (b : Bool). nat_eq x boot.0.0 || b) (boot_is x boots)

distinct_used : (journal : Written) → boot_refusal journal.boots ≡ None → InTurn (is_boot journal.boots) journal.entries → Distinct (used_tasks journal)
unfolding used_tasks
distinct_used journal free turn =
    let children = distinct_children (is_boot journal.boots) journal.entries turn in
    distinct_both (map (λ (boot : TaskId × Class). boot.0.0) journal.boots) (filter_map brought_by journal.entries) (distinct_boots [] journal.boots free).0 children.0
    (λ x is. children.1 x (sym (boot_is x journal.boots) ∙ is))

-- ---- Each task that was used has a seat

some_seat : (seats : List Seated) (task : ℕ) → 0 < seats_of seats task → has task (tasks_of seats) ≡ true
unfolding tasks_of
some_seat [] task some = absurd (omega arith)
some_seat (seat ∷ seats) task some = at (nat_eq task seat.task) refl (λ n. some_seat seats task n)
  where
    at : (b : Bool) → nat_eq task seat.task ≡ b → (0 < seats_of seats task → has task (tasks_of seats) ≡ true) → (nat_eq task seat.task || has task (tasks_of seats)) ≡ true
    at true e rest = or_first (nat_eq task seat.task) _ e
    at false e rest =
        let n : seats_of (seat ∷ seats) task ≡ 0 + seats_of seats task = seats_first task seat seats ∙ ap (λ (b : Bool). cond b 1 0 + seats_of seats task) e in
        or_second (nat_eq task seat.task) _ (rest (omega arith))

-- what holds of each seat holds of the task's
of_seat : (seats : List Seated) (task : ℕ) (P : Seated → Type 0) → 0 < seats_of seats task → All P seats → (seat : Seated) × (seat.task ≡ task) × P seat
of_seat [] task P some all = absurd (omega arith)
of_seat (seat ∷ seats) task P some all = at (nat_eq task seat.task) refl (λ n. of_seat seats task P n (All-tail P seat seats all))
  where
    at : (b : Bool) → nat_eq task seat.task ≡ b → (0 < seats_of seats task → (s : Seated) × (s.task ≡ task) × P s) → (s : Seated) × (s.task ≡ task) × P s
    at true e rest = (seat, sym (eqb-true task seat.task e), All-head P seat seats all)
    at false e rest =
        let n : seats_of (seat ∷ seats) task ≡ 0 + seats_of seats task = seats_first task seat seats ∙ ap (λ (b : Bool). cond b 1 0 + seats_of seats task) e in
        rest (omega arith)

-- what holds of each that passes
of_filter : {X : Type 0} (test : X → Bool) (P : X → Type 0) (xs : List X) → All P (filter test xs) → All (λ x. test x ≡ true → P x) xs
of_filter test P [] all = All-nil (λ x. test x ≡ true → P x)
of_filter test P (x ∷ xs) all = at (test x) refl (of_filter test P xs)
  where
    at : (b : Bool) → test x ≡ b → (All P (filter test xs) → All (λ x. test x ≡ true → P x) xs) → All (λ x. test x ≡ true → P x) (x ∷ xs)
    at true e rest =
        let here : All P (x ∷ filter test xs) = All-same P _ _ (sym (cond-true (test x) (x ∷ filter test xs) (filter test xs) e)) all in
        All-cons (λ x. test x ≡ true → P x) x xs (λ _. All-head P x (filter test xs) here) (rest (All-tail P x (filter test xs) here))
    at false e rest =
        let here : All P (filter test xs) = All-same P _ _ (sym (cond-false (test x) (x ∷ filter test xs) (filter test xs) e)) all in
        All-cons (λ x. test x ≡ true → P x) x xs (λ t. absurd (clash (test x) t e)) (rest here)

no_child : (b : Bool) (c : ℕ) → (if b then None else None) ≡ Some c → ⊥
no_child true c e = cc
no_child false c e = cc

-- who brings a child is a task
parent : (event : Event) (what : What) (c : ℕ) → brought event what ≡ Some c → (p : ℕ) × (owner event ≡ Some p)
parent (Fork p d how) what c b = (p.0, refl)
parent (Call t f) what c b = absurd (no_child _ c b)
parent (Ret t) what c b = absurd (no_child _ c b)
parent (Sleep t) what c b = absurd (no_child _ c b)
parent (Wake t) what c b = absurd (no_child _ c b)
parent (Enter t) what c b = absurd (no_child _ c b)
parent (Exit t) what c b = absurd (no_child _ c b)
parent (Idle t) what c b = absurd (no_child _ c b)
parent (Resched t) what c b = absurd (no_child _ c b)
parent (Die t) what c b = absurd (no_child _ c b)
parent Walk what c b = absurd (no_child _ c b)
parent Stop what c b = absurd (no_child _ c b)
parent Enable what c b = absurd (no_child _ c b)
parent Disable what c b = absurd (no_child _ c b)
parent Reverse what c b = absurd (no_child _ c b)

-- an entry's child has a seat if its parent has
Brings : List Seated → Entry → Type 0
Brings seats e = (p c : ℕ) → owner e.event ≡ Some p → 0 < seats_of seats p → brought_by e ≡ Some c → 0 < seats_of seats c

is_it : (t : ℕ) (o : Option ℕ) → is_number t o ≡ true → o ≡ Some t
is_it t None e = absurd (cc)
is_it t (Some u) e = ap Some (sym (eqb-true t u e))

all_used : (seats : List Seated) (used : ℕ → Bool) (entries : List Entry) → InTurn used entries → ((t : ℕ) → used t ≡ true → 0 < seats_of seats t) → All (Brings seats) entries
    → (t : ℕ) → (used t || list_any (λ (e : Entry). is_number t (brought_by e)) entries) ≡ true → 0 < seats_of seats t
unfolding Brings
all_used seats used [] turn first brings t is = first t (sym (or_none (used t)) ∙ is)
all_used seats used (e ∷ es) turn first brings t is =
    all_used seats (λ (u : ℕ). used u || is_number u (brought_by e)) es turn.1 next (All-tail (Brings seats) e es brings) t (again (used t) (is_number t (brought_by e)) (list_any (λ (x : Entry). is_number t (brought_by x)) es) is)
  where
    again : (a b c : Bool) → (a || (b || c)) ≡ true → ((a || b) || c) ≡ true
    again true b c e = refl
    again false b c e = e

    next : (u : ℕ) → (used u || is_number u (brought_by e)) ≡ true → 0 < seats_of seats u
    next u now =
        ⊎_elim
        (λ (was : used u ≡ true). first u was)
        (λ (born : is_number u (brought_by e) ≡ true).
        let some : brought_by e ≡ Some u = is_it u (brought_by e) born in
        let who = parent e.event e.reply.what u some in
        All-head (Brings seats) e es brings who.0 u who.1 (first who.0 (turn.0.sender who.0 who.1)) some)
        (or_either _ _ now)

of_boots : (boots : List (TaskId × Class)) (P : ℕ → Type 0) → All (λ (boot : TaskId × Class). P boot.0.0) boots → (t : ℕ) → is_boot boots t ≡ true → P t
of_boots [] P all t is = absurd (cc)
of_boots (boot ∷ boots) P all t is =
    ⊎_elim
    (λ (here : nat_eq t boot.0.0 ≡ true). subst P (sym (eqb-true t boot.0.0 here)) (All-head (λ (b : TaskId × Class). P b.0.0) boot boots all))
    (λ (later : is_boot boots t ≡ true). of_boots boots P (All-tail (λ (b : TaskId × Class). P b.0.0) boot boots all) t later)
    (or_either _ _ is)

module _ (journal : Written) (seats : List Seated) (same : All (IsItsPart journal.entries) seats) (all : AreAllIn journal.boots seats) where
  mine : (p : ℕ) → 0 < seats_of seats p → All (λ (e : Entry). is_of p e ≡ true → (c : ℕ) → brought_by e ≡ Some c → 0 < seats_of seats c) journal.entries
  mine p some =
      let P : Seated → Type 0 = λ seat. All (λ (e : Entry). (c : ℕ) → brought_by e ≡ Some c → 0 < seats_of seats c) (part_of seat.task journal.entries) in
      let each : All P seats = λ k d within. All-same (λ (e : Entry). (c : ℕ) → brought_by e ≡ Some c → 0 < seats_of seats c) _ _ (sym (same k d within)) (all.children k d within) in
      let it = of_seat seats p P some each in
      of_filter (is_of p) (λ (e : Entry). (c : ℕ) → brought_by e ≡ Some c → 0 < seats_of seats c) journal.entries
      (subst (λ (t : ℕ). All (λ (e : Entry). (c : ℕ) → brought_by e ≡ Some c → 0 < seats_of seats c) (part_of t journal.entries)) it.1 it.2)

  each_brings : All (Brings seats) journal.entries
  unfolding Brings
  each_brings = λ k d within p c who some born. mine p some k d within (ap (is_number p) who ∙ eq-eqb p p refl) c born

  used_in : InTurn (is_boot journal.boots) journal.entries → (t : ℕ) → was_used journal t ≡ true → 0 < seats_of seats t
  used_in turn = all_used seats (is_boot journal.boots) journal.entries turn (λ t is. of_boots journal.boots (λ (u : ℕ). 0 < seats_of seats u) all.first t is) each_brings

  -- they are as many as were given out
  pub as_many : boot_refusal journal.boots ≡ None → InTurn (is_boot journal.boots) journal.entries → ((t : ℕ) → seats_of seats t ≤ 1) → ((t : ℕ) → 0 < seats_of seats t → was_used journal t ≡ true) → length seats ≡ given_out journal
  as_many free turn few seated =
      let one = no_more (tasks_of seats) (used_tasks journal) (distinct_tasks seats few) (λ x there. used_is journal x ∙ seated x (a_seat seats x there)) in
      let two = no_more (used_tasks journal) (tasks_of seats) (distinct_used journal free turn) (λ x there. some_seat seats x (used_in turn x (sym (used_is journal x) ∙ there))) in
      let a = length_tasks seats in
      let b = length_used journal in
      omega arith

-- ---- What a close finds

module _ (name : Name) (model : Rules) (journal : Written) (named : IsOf name model journal) (whole : Whole Entry) (kept : IsKept name journal whole) (seats : List Seated) (control : List Entry) (parts : All (λ (seat : Seated). seat.entries ≡ part_for key_of (Some seat.task) whole.all) seats) (few : (t : ℕ) → seats_of seats t ≤ 1) (among : (t : ℕ) → 0 < seats_of seats t → Among (Some t) whole.out) (rest : control ≡ part_for key_of None whole.all) where
  pub are_parts : AreParts journal seats control
  are_parts = record {
    no_stranger = no_stranger journal seats control few (λ t some. kept.out t (among t some)) kept.entries;
    seats_same = λ k d within. parts k d within ∙ ap (part_for key_of (Some (get_or seats k d).task)) kept.all ∙ part_is (get_or seats k d).task journal.entries;
    control_same = rest ∙ ap (part_for key_of None) kept.all ∙ nobodys_part_is journal.entries;
  }

  pub are_closed : length seats ≡ given_out journal → IsClosed journal seats control
  are_closed many = record {
    no_stranger = are_parts.no_stranger;
    none_missing = many;
    seats_same = are_parts.seats_same;
    control_same = are_parts.control_same;
  }

  pub all_counted : AreAllIn name.boots seats → length seats ≡ given_out journal
  all_counted all =
      as_many journal seats are_parts.seats_same (subst (λ (boots : List (TaskId × Class)). AreAllIn boots seats) named.boots all) kept.boots kept.in_turn few (λ t some. kept.out t (among t some))
