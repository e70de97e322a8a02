-- Seats that are played, one after another, and gathered.
use Rattle.std.proofs.Common.{◌≡◌, ◌⊎◌, ℕ, zero, suc, ◌+◌, ◌<◌, Bool, true, false, cond, List, [], ◌∷◌, ◌++◌, map, get_or, length, nat_eq, Option, Some, None, option_map, option_to_list, refl, sym, ap, subst, take-append-drop, ◌∙◌, ⊎_elim, inl, inr, arith, append-nil}
use Rattle.std.specs.Prelude.{All, Contains, MatchOption, take, drop}
use Rattle.std.specs.Option.{option_or}
use Rattle.std.proofs.lemmas.Bool.{eqb-true, eq-eqb}
use Rattle.std.proofs.lemmas.List.Elements.{All-append, All-contains, All-head, All-nil, All-push, All-tail, All-take, Contains-append_left, Contains-push}
use Rattle.std.proofs.lemmas.List.Sums.{sum_by-append}
use Rattle.lp_stack.specs.declared.number.TaskId.{TaskId}
use Rattle.lp_stack.specs.declared.view.Class.{Class}
use Rattle.lp_definitions.specs.declared.event.Event.{Event}
use Rattle.lp_log.specs.Audits.{brought_by, seats_of}
use Rattle.lp_log.specs.Entries.{Entry}
use Rattle.lp_log.specs.Journals.{events_in}
use Rattle.lp_log.specs.Seats.{Seated, and_sent, new_seat}
use Rattle.lp_log.proofs.Places.{seats_first}
use Rattle.lp_owned.specs.Owned.{AreAllIn}
use Rattle.lp_threads.specs.Plays.{events_of, events_of_control}
use Rattle.lp_threads.proofs.Dealt.{sent_more, written}
use Rattle.lp_threads.specs.inside.Players.{AreBegun, AreCovered, Grows, HasPlayed, HaveSeats, IsBegun, IsBegunAt, IsCommanded, IsFull, IsPlayed, IsSentBy}

-- ---- Seats of more lists

of_append : (xs ys : List Seated) (t : ℕ) → seats_of (xs ++ ys) t ≡ seats_of xs t + seats_of ys t
of_append xs ys t = sum_by-append (λ (s : Seated). cond (nat_eq t s.task) 1 0) xs ys

of_none : (t : ℕ) → seats_of [] t ≡ 0
of_none t = refl

of_one : (seat : Seated) (t : ℕ) → seats_of (seat ∷ []) t ≡ cond (nat_eq t seat.task) 1 0
of_one seat t = let a = seats_first t seat [] in omega (arith, of_none t)

pub in_left : (xs ys : List Seated) (t : ℕ) → 0 < seats_of xs t → 0 < seats_of (xs ++ ys) t
in_left xs ys t some = let a = of_append xs ys t in omega arith

pub in_right : (xs ys : List Seated) (t : ℕ) → 0 < seats_of ys t → 0 < seats_of (xs ++ ys) t
in_right xs ys t some = let a = of_append xs ys t in omega arith

pub in_last : (xs : List Seated) (t : ℕ) → 0 < seats_of (xs ++ new_seat t ∷ []) t
in_last xs t =
    let a = of_append xs (new_seat t ∷ []) t in
    let b : seats_of (new_seat t ∷ []) t ≡ 1 = of_one (new_seat t) t ∙ ap (λ (b : Bool). cond b 1 0) (eq-eqb t t refl) in
    omega arith

pub have_more : (entries : List Entry) (xs ys : List Seated) → ((t : ℕ) → 0 < seats_of xs t → 0 < seats_of ys t) → HaveSeats entries xs → HaveSeats entries ys
have_more entries xs ys more have = λ k d within c is. more c (have k d within c is)

all_have_more : (seats xs ys : List Seated) → ((t : ℕ) → 0 < seats_of xs t → 0 < seats_of ys t) → All (λ (seat : Seated). HaveSeats seat.entries xs) seats → All (λ (seat : Seated). HaveSeats seat.entries ys) seats
all_have_more seats xs ys more all = λ k d within. have_more _ xs ys more (all k d within)

-- ---- As far as events were left

-- what is so without a value, and with one
pub when_none : {X : Type 0} (o : Option X) (A : Type 0) (B : X → Type 0) → o ≡ None → MatchOption o A B → A
when_none {X} o A B is h = subst (λ (p : Option X). MatchOption p A B) is h

pub when_some : {X : Type 0} (o : Option X) (x : X) (A : Type 0) (B : X → Type 0) → o ≡ Some x → MatchOption o A B → B x
when_some {X} o x A B is h = subst (λ (p : Option X). MatchOption p A B) is h

-- who is told later only makes it less
pub begun_first : (one other : Option (List Event)) (script sent : List Event) → IsBegun one script sent → IsBegun (option_or one other) script sent
begun_first one other script sent was = record { rest = was.rest; parts = was.parts; all = at one was.all }
  where
    at : (told : Option (List Event)) → (told ≡ None → was.rest ≡ []) → option_or told other ≡ None → was.rest ≡ []
    at None all is = all refl
    at (Some events) all is = cc

pub begun_second : (one other : Option (List Event)) (script sent : List Event) → IsBegun other script sent → IsBegun (option_or one other) script sent
begun_second one other script sent was = record { rest = was.rest; parts = was.parts; all = at one }
  where
    at : (told : Option (List Event)) → option_or told other ≡ None → was.rest ≡ []
    at None is = was.all is
    at (Some events) is = cc

pub full_of_both : (one other : Option (List Event)) → IsFull one → IsFull other → IsFull (option_or one other)
full_of_both None other a b = b
full_of_both (Some events) other a b = a

begun_seats_first : (one other : Option (List Event)) (events : List Event) (seats : List Seated) → All (IsBegunAt one events) seats → All (IsBegunAt (option_or one other) events) seats
begun_seats_first one other events seats all = λ k d within. begun_first one other _ _ (all k d within)

begun_seats_second : (one other : Option (List Event)) (events : List Event) (seats : List Seated) → All (IsBegunAt other events) seats → All (IsBegunAt (option_or one other) events) seats
begun_seats_second one other events seats all = λ k d within. begun_second one other _ _ (all k d within)

-- what was sent of a script, one after another
pub begun_by : (full : Option (List Event)) (script sent : List Event) (i : ℕ) → sent ≡ take i script → (full ≡ None → take i script ≡ script) → IsBegun full script sent
begun_by full script sent i is all = record {
  rest = drop i script;
  parts = sym (ap (λ (front : List Event). front ++ drop i script) is ∙ take-append-drop i script);
  all = λ none. nothing (take i script) (drop i script) (take-append-drop i script ∙ sym (all none));
}
  where
    nothing : (front rest : List Event) → front ++ rest ≡ front → rest ≡ []
    nothing [] rest e = e
    nothing (x ∷ front) rest e = nothing front rest (tail e)
      where
        tail : x ∷ (front ++ rest) ≡ x ∷ front → front ++ rest ≡ front
        tail e = cc

-- ---- A seat is played

-- the seats of a player, of which some were played and others wait
pub record IsPlaying (events : List Event) (hand played waiting : List Seated) (full : Option (List Event)) : Type 0 where
  pub sent : All (IsBegunAt full events) played
  pub room : IsFull full
  pub new : All (λ (seat : Seated). seat.entries ≡ []) waiting
  pub given : All (λ (seat : Seated). 0 < seats_of (played ++ waiting) seat.task) hand
  pub children : All (λ (seat : Seated). HaveSeats seat.entries (played ++ waiting)) played

its_own : (hand : List Seated) → All (λ (seat : Seated). 0 < seats_of hand seat.task) hand
its_own [] = All-nil (λ (seat : Seated). 0 < seats_of [] seat.task)
its_own (first ∷ hand) = go (its_own hand)
  where
    go : All (λ (seat : Seated). 0 < seats_of hand seat.task) hand → (k : ℕ) (d : Seated) → k < length (first ∷ hand) → 0 < seats_of (first ∷ hand) (get_or (first ∷ hand) k d).task
    go rest zero d within =
        let n : seats_of (first ∷ hand) first.task ≡ 1 + seats_of hand first.task = seats_first first.task first hand ∙ ap (λ (b : Bool). cond b 1 0 + seats_of hand first.task) (eq-eqb first.task first.task refl) in
        omega arith
    go rest (suc k) d within =
        let some = rest k d (omega arith) in
        let n = seats_first (get_or hand k d).task first hand in
        omega arith

pub starts_playing : (events : List Event) (hand : List Seated) → All (λ (seat : Seated). seat.entries ≡ []) hand → IsPlaying events hand [] hand None
starts_playing events hand new = record {
  sent = All-nil (IsBegunAt None events);
  room = tt;
  new = new;
  given = its_own hand;
  children = All-nil (λ (seat : Seated). HaveSeats seat.entries ([] ++ hand));
}

pub plays_on : (events : List Event) (hand played : List Seated) (seat back : Seated) (rest waiting : List Seated) (full stopped : Option (List Event))
    → IsPlaying events hand played (seat ∷ rest) full → HasPlayed events seat back stopped rest waiting → IsFull stopped → IsPlaying events hand (played ++ back ∷ []) waiting (option_or full stopped)
plays_on events hand played seat back rest waiting full stopped was done room = record {
  sent = All-push (IsBegunAt (option_or full stopped) events) played back (begun_seats_first full stopped events played was.sent) (begun_second full stopped _ _ done.sent);
  room = full_of_both full stopped was.room room;
  new = done.grows.new (All-tail (λ (s : Seated). s.entries ≡ []) seat rest was.new);
  given = λ k d within. more _ (was.given k d within);
  children = All-push (λ (s : Seated). HaveSeats s.entries ((played ++ back ∷ []) ++ waiting)) played back
      (all_have_more played (played ++ seat ∷ rest) ((played ++ back ∷ []) ++ waiting) more was.children)
      (have_more back.entries waiting ((played ++ back ∷ []) ++ waiting) (in_right (played ++ back ∷ []) waiting) done.children);
}
  where
    more : (t : ℕ) → 0 < seats_of (played ++ seat ∷ rest) t → 0 < seats_of ((played ++ back ∷ []) ++ waiting) t
    more t some =
        let a = of_append played (seat ∷ rest) t in
        let b = seats_first t seat rest in
        let c = of_append (played ++ back ∷ []) waiting t in
        let d = of_append played (back ∷ []) t in
        let e : seats_of (back ∷ []) t ≡ cond (nat_eq t seat.task) 1 0 = of_one back t ∙ ap (λ (n : ℕ). cond (nat_eq t n) 1 0) done.task in
        ⊎_elim
        (λ (here : 0 < seats_of rest t). let f = done.grows.stay t here in omega arith)
        (λ (none : seats_of rest t ≡ 0). omega arith)
        (some_or_none (seats_of rest t))
      where
        some_or_none : (n : ℕ) → (0 < n) ⊎ (n ≡ 0)
        some_or_none zero = inr refl
        some_or_none (suc n) = inl (omega arith)

pub ends_playing : (events : List Event) (hand played : List Seated) (full : Option (List Event)) → IsPlaying events hand played [] full → IsPlayed events hand played full
ends_playing events hand played full was = record {
  sent = was.sent;
  room = was.room;
  given = subst (λ (all : List Seated). All (λ (seat : Seated). 0 < seats_of all seat.task) hand) (append-nil played) was.given;
  children = subst (λ (all : List Seated). All (λ (seat : Seated). HaveSeats seat.entries all) played) (append-nil played) was.children;
}

-- ---- What players hand in

-- who has a seat in a hand has one in what was played of it
played_of : (hand played : List Seated) → All (λ (seat : Seated). 0 < seats_of played seat.task) hand → (t : ℕ) → 0 < seats_of hand t → 0 < seats_of played t
played_of [] played all t some = absurd (omega (arith, of_none t))
played_of (seat ∷ hand) played all t some = at (nat_eq t seat.task) refl (λ n. played_of hand played (All-tail (λ (s : Seated). 0 < seats_of played s.task) seat hand all) t n)
  where
    at : (b : Bool) → nat_eq t seat.task ≡ b → (0 < seats_of hand t → 0 < seats_of played t) → 0 < seats_of played t
    at true e rest = subst (λ (u : ℕ). 0 < seats_of played u) (sym (eqb-true t seat.task e)) (All-head (λ (s : Seated). 0 < seats_of played s.task) seat hand all)
    at false e rest =
        let n : seats_of (seat ∷ hand) t ≡ 0 + seats_of hand t = seats_first t seat hand ∙ ap (λ (b : Bool). cond b 1 0 + seats_of hand t) e in
        rest (omega arith)

-- who has a seat that this thread was given has one among these
abbrev pub IsIn : {H : Type 0} → (H → List Seated) → List Seated → H → Type 0
IsIn hand all thread = (t : ℕ) → 0 < seats_of (hand thread) t → 0 < seats_of all t

pub record AreGathered {H : Type 0} (hand : H → List Seated) (events : List Event) (threads : List H) (all : List Seated) (full : Option (List Event)) : Type 0 where
  pub given : All (IsIn hand all) threads
  pub sent : All (IsBegunAt full events) all
  pub room : IsFull full
  pub children : All (λ (seat : Seated). HaveSeats seat.entries all) all

pub none_gathered : {H : Type 0} (hand : H → List Seated) (events : List Event) → AreGathered hand events [] [] None
none_gathered hand events = record {
  given = All-nil (IsIn hand []);
  sent = All-nil (IsBegunAt None events);
  room = tt;
  children = All-nil (λ (seat : Seated). HaveSeats seat.entries []);
}

pub one_gathered : {H : Type 0} (hand : H → List Seated) (events : List Event) (threads : List H) (thread : H) (all played : List Seated) (full stopped : Option (List Event))
    → AreGathered hand events threads all full → IsPlayed events (hand thread) played stopped → AreGathered hand events (threads ++ thread ∷ []) (all ++ played) (option_or full stopped)
one_gathered hand events threads thread all played full stopped was done = record {
  given = All-push (IsIn hand (all ++ played)) threads thread
      (λ k d within t some. in_left all played t (was.given k d within t some))
      (λ t some. in_right all played t (played_of (hand thread) played done.given t some));
  sent = All-append (IsBegunAt (option_or full stopped) events) all played (begun_seats_first full stopped events all was.sent) (begun_seats_second full stopped events played done.sent);
  room = full_of_both full stopped was.room done.room;
  children = All-append (λ (seat : Seated). HaveSeats seat.entries (all ++ played)) all played
      (all_have_more all all (all ++ played) (in_left all played) was.children)
      (all_have_more played played (all ++ played) (in_right all played) done.children);
}

-- ---- Which threads were given which seats

pub none_covered : {H : Type 0} (hand : H → List Seated) (seats : List Seated) → AreCovered hand seats seats []
none_covered hand seats t some = inl some

pub one_covered : {H : Type 0} (hand : H → List Seated) (seats left rest : List Seated) (threads : List H) (thread : H)
    → AreCovered hand seats left threads → left ≡ rest ++ hand thread → AreCovered hand seats rest (threads ++ thread ∷ [])
one_covered {H} hand seats left rest threads thread was parts t some =
    ⊎_elim
    (λ (waits : 0 < seats_of left t).
    let a : seats_of left t ≡ seats_of rest t + seats_of (hand thread) t = ap (λ (l : List Seated). seats_of l t) parts ∙ of_append rest (hand thread) t in
    ⊎_elim
    (λ (here : 0 < seats_of rest t). inl here)
    (λ (none : seats_of rest t ≡ 0). inr (thread, Contains-push threads thread, omega arith))
    (some_or_none (seats_of rest t)))
    (λ (there : (h : H) × Contains threads h × (0 < seats_of (hand h) t)). inr (there.0, Contains-append_left threads (thread ∷ []) there.0 there.1, there.2))
    (was t some)
  where
    some_or_none : (n : ℕ) → (0 < n) ⊎ (n ≡ 0)
    some_or_none zero = inr refl
    some_or_none (suc n) = inl (omega arith)

-- ---- All are in

boot_seat : (boots : List (TaskId × Class)) → All (λ (boot : TaskId × Class). 0 < seats_of (map (λ (b : TaskId × Class). new_seat b.0.0) boots) boot.0.0) boots
boot_seat [] = All-nil (λ (boot : TaskId × Class). 0 < seats_of [] boot.0.0)
boot_seat (first ∷ boots) = go (boot_seat boots)
  where
    go : All (λ (boot : TaskId × Class). 0 < seats_of (map (λ (b : TaskId × Class). new_seat b.0.0) boots) boot.0.0) boots
        → (k : ℕ) (d : TaskId × Class) → k < length (first ∷ boots) → 0 < seats_of (new_seat first.0.0 ∷ map (λ (b : TaskId × Class). new_seat b.0.0) boots) (get_or (first ∷ boots) k d).0.0
    go rest zero d within =
        let n : seats_of (new_seat first.0.0 ∷ map (λ (b : TaskId × Class). new_seat b.0.0) boots) first.0.0 ≡ 1 + seats_of (map (λ (b : TaskId × Class). new_seat b.0.0) boots) first.0.0 =
        seats_first first.0.0 (new_seat first.0.0) (map (λ (b : TaskId × Class). new_seat b.0.0) boots) ∙ ap (λ (b : Bool). cond b 1 0 + seats_of (map (λ (b : TaskId × Class). new_seat b.0.0) boots) first.0.0) (eq-eqb first.0.0 first.0.0 refl) in
        omega arith
    go rest (suc k) d within =
        let some = rest k d (omega arith) in
        let n = seats_first (get_or boots k d).0.0 (new_seat first.0.0) (map (λ (b : TaskId × Class). new_seat b.0.0) boots) in
        omega arith

pub all_in : {H : Type 0} (hand : H → List Seated) (events : List Event) (boots : List (TaskId × Class)) (seats : List Seated) (threads : List H) (all : List Seated)
    → seats ≡ map (λ (boot : TaskId × Class). new_seat boot.0.0) boots → AreCovered hand seats [] threads → All (IsIn hand all) threads
    → All (λ (seat : Seated). HaveSeats seat.entries all) all → AreAllIn boots all
all_in {H} hand events boots seats threads all start covered given children = record {
  first = λ k d within. at (get_or boots k d).0.0 (subst (λ (l : List Seated). 0 < seats_of l (get_or boots k d).0.0) (sym start) (boot_seat boots k d within));
  children = children;
}
  where
    at : (t : ℕ) → 0 < seats_of seats t → 0 < seats_of all t
    at t some =
        ⊎_elim
        (λ (none : 0 < seats_of [] t). absurd (omega (arith, of_none t)))
        (λ (there : (h : H) × Contains threads h × (0 < seats_of (hand h) t)). All-contains (IsIn hand all) threads there.0 given there.1 t there.2)
        (covered t some)

-- ---- An event is sent

grows_by : (before more : List Seated) → All (λ (seat : Seated). seat.entries ≡ []) more → Grows before (before ++ more)
grows_by before more new = record {
  stay = in_left before more;
  new = λ all. All-append (λ (seat : Seated). seat.entries ≡ []) before more all new;
}

-- the child that an event brought waits after those that did
waits : (before : List Seated) (brought : Option ℕ) → (child : ℕ) → brought ≡ Some child → 0 < seats_of (before ++ option_to_list (option_map new_seat brought)) child
waits before (Some c) child is = subst (λ (n : ℕ). 0 < seats_of (before ++ new_seat c ∷ []) n) (same is) (in_last before c)
  where
    same : Some c ≡ Some child → c ≡ child
    same e = cc
waits before None child is = absurd (none is)
  where
    none : None ≡ Some child → ⊥
    none e = cc

all_new : (brought : Option ℕ) → All (λ (seat : Seated). seat.entries ≡ []) (option_to_list (option_map new_seat brought))
all_new (Some c) = All-push (λ (seat : Seated). seat.entries ≡ []) [] (new_seat c) (All-nil (λ (seat : Seated). seat.entries ≡ [])) refl
all_new None = All-nil (λ (seat : Seated). seat.entries ≡ [])

pub sent_by : (event : Event) (seat back : Seated) (before after : List Seated) (entry : Entry) (child : Option Seated)
    → entry.event ≡ event → back ≡ and_sent seat entry → child ≡ option_map new_seat (brought_by entry) → after ≡ before ++ option_to_list child → IsSentBy event seat back before after
sent_by event seat back before after entry child its sent brought more =
    let all : before ++ option_to_list (option_map new_seat (brought_by entry)) ≡ after = sym (more ∙ ap (λ (c : Option Seated). before ++ option_to_list c) brought) in
    record {
      entry = entry;
      its = its;
      sent = sent;
      child = subst (λ (waiting : List Seated). (child : ℕ) → brought_by entry ≡ Some child → 0 < seats_of waiting child) all (waits before (brought_by entry));
      grows = subst (Grows before) all (grows_by before (option_to_list (option_map new_seat (brought_by entry))) (all_new (brought_by entry)));
    }

-- ---- A script is sent

-- this much of the seat's script was sent
pub record IsMidway (events script : List Event) (i : ℕ) (start seat : Seated) (before waiting : List Seated) : Type 0 where
  pub task : seat.task ≡ start.task
  pub its : script ≡ events_of seat.task events
  pub sent : events_in seat.entries ≡ take i script
  pub children : HaveSeats seat.entries waiting
  pub grows : Grows before waiting

pub starts_midway : (events script : List Event) (seat : Seated) (before : List Seated) → seat.entries ≡ [] → script ≡ events_of seat.task events → IsMidway events script 0 seat seat before before
starts_midway events script seat before new its = record {
  task = refl;
  its = its;
  sent = ap events_in new;
  children = subst (λ (entries : List Entry). HaveSeats entries before) (sym new) (All-nil (λ (entry : Entry). (child : ℕ) → brought_by entry ≡ Some child → 0 < seats_of before child));
  grows = record { stay = λ t some. some; new = λ all. all };
}

pub goes_midway : (events script : List Event) (i : ℕ) (d : Event) (start seat back : Seated) (before waiting after : List Seated)
    → i < length script → IsMidway events script i start seat before waiting → IsSentBy (get_or script i d) seat back waiting after → IsMidway events script (i + 1) start back before after
goes_midway events script i d start seat back before waiting after within was done = record {
  task = same ∙ was.task;
  its = was.its ∙ ap (λ (task : ℕ). events_of task events) (sym same);
  sent = ap (λ (s : Seated). events_in s.entries) done.sent ∙ sent_more script i d seat.entries done.entry within was.sent done.its;
  children = subst (λ (s : Seated). HaveSeats s.entries after) (sym done.sent)
      (All-push (λ (entry : Entry). (child : ℕ) → brought_by entry ≡ Some child → 0 < seats_of after child) seat.entries done.entry
      (have_more seat.entries waiting after done.grows.stay was.children) done.child);
  grows = record { stay = λ t some. done.grows.stay t (was.grows.stay t some); new = λ all. done.grows.new (was.grows.new all) };
}
  where
    same : back.task ≡ seat.task
    same = ap (λ (s : Seated). s.task) done.sent

pub ends_midway : (events script : List Event) (i : ℕ) (start seat back : Seated) (full : Option (List Event)) (before waiting after : List Seated)
    → IsMidway events script i start seat before waiting → back ≡ seat → after ≡ waiting → (full ≡ None → take i script ≡ script) → HasPlayed events start back full before after
ends_midway events script i start seat back full before waiting after was same stay all =
    subst (λ (s : Seated). HasPlayed events start s full before after) (sym same)
    (subst (HasPlayed events start seat full before) (sym stay) (record {
      task = was.task;
      sent = subst (λ (es : List Event). IsBegun full es (events_in seat.entries)) was.its (begun_by full script (events_in seat.entries) i was.sent all);
      children = was.children;
      grows = was.grows;
    }))

-- ---- The same of lists that are others by name

pub is_playing : (events : List Event) (hand played waiting : List Seated) → All (λ (seat : Seated). seat.entries ≡ []) hand → played ≡ [] → waiting ≡ hand → IsPlaying events hand played waiting None
is_playing events hand played waiting new none all =
    subst (λ (p : List Seated). IsPlaying events hand p waiting None) (sym none) (subst (λ (w : List Seated). IsPlaying events hand [] w None) (sym all) (starts_playing events hand new))

pub first_waits : (events : List Event) (hand played waiting : List Seated) (seat : Seated) (rest : List Seated) (full : Option (List Event))
    → IsPlaying events hand played waiting full → waiting ≡ seat ∷ rest → seat.entries ≡ []
first_waits events hand played waiting seat rest full was is =
    All-head (λ (s : Seated). s.entries ≡ []) seat rest (subst (λ (l : List Seated). All (λ (s : Seated). s.entries ≡ []) l) is was.new)

pub still_playing : (events : List Event) (hand played waiting : List Seated) (seat back : Seated) (rest after more : List Seated) (full stopped : Option (List Event))
    → IsPlaying events hand played waiting full → waiting ≡ seat ∷ rest → HasPlayed events seat back stopped rest after → IsFull stopped → more ≡ played ++ back ∷ [] → IsPlaying events hand more after (option_or full stopped)
still_playing events hand played waiting seat back rest after more full stopped was is done room all =
    subst (λ (p : List Seated). IsPlaying events hand p after (option_or full stopped)) (sym all)
    (plays_on events hand played seat back rest after full stopped (subst (λ (w : List Seated). IsPlaying events hand played w full) is was) done room)

pub has_played : (events : List Event) (hand played waiting : List Seated) (full : Option (List Event)) → IsPlaying events hand played waiting full → waiting ≡ [] → IsPlayed events hand played full
has_played events hand played waiting full was none = ends_playing events hand played full (subst (λ (w : List Seated). IsPlaying events hand played w full) none was)

-- the seats that are left are new, and the others were given to threads
pub record IsStarting {H : Type 0} (hand : H → List Seated) (seats left : List Seated) (threads : List H) : Type 0 where
  pub new : All (λ (seat : Seated). seat.entries ≡ []) left
  pub covered : AreCovered hand seats left threads

pub is_starting : {H : Type 0} (hand : H → List Seated) (seats left : List Seated) (threads : List H) → All (λ (seat : Seated). seat.entries ≡ []) seats → left ≡ seats → threads ≡ [] → IsStarting hand seats left threads
is_starting {H} hand seats left threads new same none =
    subst (λ (l : List Seated). IsStarting hand seats l threads) (sym same)
    (subst (λ (hs : List H). IsStarting hand seats seats hs) (sym none) (record { new = new; covered = none_covered hand seats }))

pub still_starting : {H : Type 0} (hand : H → List Seated) (seats left rest part : List Seated) (threads more : List H) (thread : H)
    → IsStarting hand seats left threads → left ≡ rest ++ part → hand thread ≡ part → more ≡ threads ++ thread ∷ [] → IsStarting hand seats rest more
still_starting {H} hand seats left rest part threads more thread was parts its all =
    subst (λ (hs : List H). IsStarting hand seats rest hs) (sym all) (record {
      new = subst (λ (l : List Seated). All (λ (seat : Seated). seat.entries ≡ []) l) (written (length rest) rest part refl)
          (All-take (λ (seat : Seated). seat.entries ≡ []) (length rest) (rest ++ part) (subst (λ (l : List Seated). All (λ (seat : Seated). seat.entries ≡ []) l) parts was.new));
      covered = one_covered hand seats left rest threads thread was.covered (parts ∙ ap (λ (l : List Seated). rest ++ l) (sym its));
    })

pub all_started : {H : Type 0} (hand : H → List Seated) (seats left : List Seated) (threads : List H) → IsStarting hand seats left threads → left ≡ [] → AreCovered hand seats [] threads
all_started hand seats left threads was none = subst (λ (l : List Seated). AreCovered hand seats l threads) none was.covered

pub split_parts : (n : ℕ) (left rest part : List Seated) → rest ≡ take n left → part ≡ drop n left → left ≡ rest ++ part
split_parts n left rest part e t = sym (ap (λ (l : List Seated). l ++ part) e ∙ ap (λ (l : List Seated). take n left ++ l) t ∙ take-append-drop n left)

-- ---- The control, and all together

pub commanded : (events script : List Event) (i : ℕ) (control back : List Entry) (full : Option (List Event))
    → script ≡ events_of_control events → events_in control ≡ take i script → back ≡ control → (full ≡ None → take i script ≡ script) → IsFull full → IsCommanded events back full
commanded events script i control back full its sent same all room =
    subst (λ (entries : List Entry). IsCommanded events entries full) (sym same) (record {
      sent = subst (λ (es : List Event). IsBegun full es (events_in control)) its (begun_by full script (events_in control) i sent all);
      room = room;
    })

pub both_begun : (events : List Event) (seats : List Seated) (control : List Entry) (full stopped : Option (List Event))
    → All (IsBegunAt full events) seats → IsFull full → IsCommanded events control stopped → AreBegun (option_or full stopped) events seats control
both_begun events seats control full stopped sent room done = record {
  from_seats = begun_seats_first full stopped events seats sent;
  from_control = begun_second full stopped _ _ done.sent;
  room = full_of_both full stopped room done.room;
}
