-- Events that are dealt out to tasks and to the control, one by one.
use Rattle.std.proofs.Common.{◌≡◌, ◌+◌, take, ◌≢◌, ◌∙◌, ℕ, zero, suc, ◌<◌, ◌++◌, ◌∷◌, [], List, Vec, Bool, true, cond, Option, Some, None, All, ap, arith, get_or, length, not, is_some, refl, set, sym, subst, ⊎_elim}
use Rattle.std.proofs.lemmas.Bool.{eq-eqb, eqb-true, ne_eqb}
use Rattle.std.proofs.lemmas.Bool.Decides.{eqb_tells}
use Rattle.std.proofs.lemmas.List.{append-nil, get_or-set_same, get_or-set_other, map-append, take_more}
use Rattle.std.proofs.Math.Seq.{take-append_seam}
use Rattle.std.proofs.lemmas.List.Elements.{All-weaker, filter-append, filter_passes}
use Rattle.lp_definitions.specs.declared.event.Event.{Event}
use Rattle.lp_log.specs.Entries.{Entry}
use Rattle.lp_log.specs.Journals.{events_in}
use Rattle.lp_log.specs.Seats.{owner}
use Rattle.lp_log.specs.Audits.{is_number}
use Rattle.lp_threads.specs.Plays.{events_of, events_of_control}
use Rattle.lp_threads.specs.inside.Dealt.{AreMore, IsDealt}

-- ---- Whose events they are

its : (task : ℕ) (whose : Option ℕ) → is_number task whose ≡ true → whose ≡ Some task
its task None is = cc
its task (Some other) is = ap Some (sym (eqb-true task other is))

nobodys : (whose : Option ℕ) → not (is_some whose) ≡ true → whose ≡ None
nobodys None is = refl
nobodys (Some task) is = cc

-- a script has its task's events alone
pub owned : (task : ℕ) (events : List Event) → All (λ (event : Event). owner event ≡ Some task) (events_of task events)
owned task events =
    All-weaker (λ (event : Event). is_number task (owner event) ≡ true) (λ (event : Event). owner event ≡ Some task) (λ event is. its task (owner event) is) (events_of task events)
    (filter_passes (λ (event : Event). is_number task (owner event)) events)

pub unowned : (events : List Event) → All (λ (event : Event). owner event ≡ None) (events_of_control events)
unowned events =
    All-weaker (λ (event : Event). not (is_some (owner event)) ≡ true) (λ (event : Event). owner event ≡ None) (λ event is. nobodys (owner event) is) (events_of_control events)
    (filter_passes (λ (event : Event). not (is_some (owner event))) events)

-- ---- One event more

own : (task : ℕ) (event : Event) → owner event ≡ Some task → events_of task (event ∷ []) ≡ event ∷ []
own task event is = ap (λ (b : Bool). cond b (event ∷ []) []) (ap (is_number task) is ∙ eq-eqb task task refl)

others : (task : ℕ) (event : Event) (whose : Option ℕ) → owner event ≡ whose → whose ≢ Some task → events_of task (event ∷ []) ≡ []
others task event None is other = ap (λ (b : Bool). cond b (event ∷ []) []) (ap (is_number task) is)
others task event (Some owning) is other =
    ap (λ (b : Bool). cond b (event ∷ []) []) (ap (is_number task) is ∙ ne_eqb task owning (λ same. other (ap Some (sym same))))

none_there : (xs : List Event) (ys : List Event) → ys ≡ [] → xs ≡ xs ++ ys
none_there xs ys none = sym (ap (λ (zs : List Event). xs ++ zs) none ∙ append-nil xs)

-- it goes to its task
pub to_task : {A : Type 0} (tasks : List (Vec Event A)) (control : List Event) (event : Event) (task : ℕ) (before after : Vec Event A)
    → owner event ≡ Some task → task < length tasks → before ≡ get_or tasks task before → after.items ≡ before.items ++ event ∷ []
    → AreMore tasks control event (set tasks task after) control
to_task {A} tasks control event task before after is within there more =
    record {
      scripts = λ t d at. ⊎_elim (λ same. here t d same.1) (λ other. elsewhere t d other.1) (eqb_tells t task);
      others = none_there control (events_of_control (event ∷ [])) (ap (λ (whose : Option ℕ). cond (not (is_some whose)) (event ∷ []) []) is);
    }
  where
    at_task : (d : Vec Event A) → (get_or (set tasks task after) task d).items ≡ (get_or tasks task d).items ++ events_of task (event ∷ [])
    at_task d =
        let was : before ≡ get_or tasks task d = there ∙ same_default tasks task before d within in
        ap (λ (v : Vec Event A). v.items) (get_or-set_same tasks task after d within) ∙ more
        ∙ ap (λ (v : Vec Event A). v.items ++ event ∷ []) was ∙ ap (λ (es : List Event). (get_or tasks task d).items ++ es) (sym (own task event is))
      where
        same_default : (vs : List (Vec Event A)) (i : ℕ) (d e : Vec Event A) → i < length vs → get_or vs i d ≡ get_or vs i e
        same_default [] i d e lt = absurd (omega (arith, lt))
        same_default (v ∷ vs) zero d e lt = refl
        same_default (v ∷ vs) (suc i) d e lt = same_default vs i d e (omega arith)

    here : (t : ℕ) (d : Vec Event A) → t ≡ task → (get_or (set tasks task after) t d).items ≡ (get_or tasks t d).items ++ events_of t (event ∷ [])
    here t d same = subst (λ (k : ℕ). (get_or (set tasks task after) k d).items ≡ (get_or tasks k d).items ++ events_of k (event ∷ [])) (sym same) (at_task d)

    elsewhere : (t : ℕ) (d : Vec Event A) → t ≢ task → (get_or (set tasks task after) t d).items ≡ (get_or tasks t d).items ++ events_of t (event ∷ [])
    elsewhere t d other =
        ap (λ (v : Vec Event A). v.items) (get_or-set_other tasks task t after d other)
        ∙ none_there (get_or tasks t d).items (events_of t (event ∷ [])) (others t event (Some task) is (λ (e : Some task ≡ Some t). other (sym (same_task e))))
      where
        same_task : Some task ≡ Some t → task ≡ t
        same_task e = cc

-- it goes to the control
pub to_control : {A : Type 0} (tasks : List (Vec Event A)) (control : List Event) (event : Event)
    → owner event ≡ None → AreMore tasks control event tasks (control ++ event ∷ [])
to_control {A} tasks control event is =
    record {
      scripts = λ t d at. none_there (get_or tasks t d).items (events_of t (event ∷ [])) (others t event None is (λ (e : None ≡ Some t). cc));
      others = ap (λ (es : List Event). control ++ es) (sym (ap (λ (whose : Option ℕ). cond (not (is_some whose)) (event ∷ []) []) is));
    }

-- what was dealt out is, with one event more
pub dealt_more : {A : Type 0} (events : List Event) (event : Event) (tasks after : List (Vec Event A)) (control rest : List Event)
    → length after ≡ length tasks → IsDealt events tasks control → AreMore tasks control event after rest → IsDealt (events ++ event ∷ []) after rest
dealt_more events event tasks after control rest wide dealt more =
    record {
      scripts = λ task d within.
          more.scripts task d (omega (arith, wide, within)) ∙ ap (λ (es : List Event). es ++ events_of task (event ∷ [])) (dealt.scripts task d (omega (arith, wide, within)))
          ∙ sym (filter-append (λ (e : Event). is_number task (owner e)) events (event ∷ []));
      rest = more.others ∙ ap (λ (es : List Event). es ++ events_of_control (event ∷ [])) dealt.rest ∙ sym (filter-append (λ (e : Event). not (is_some (owner e))) events (event ∷ []));
    }

-- what a list is written back as, of which each place was given
pub written : {A : Type 0} (n : ℕ) (xs ys : List A) → n ≡ length xs → take n (xs ++ ys) ≡ xs
written n xs ys all = rw all (take-append_seam xs ys)

-- one event more of a script was sent
pub sent_more : (script : List Event) (i : ℕ) (d : Event) (before : List Entry) (entry : Entry) → i < length script
    → events_in before ≡ take i script → entry.event ≡ get_or script i d → events_in (before ++ entry ∷ []) ≡ take (i + 1) script
sent_more script i d before entry within sent its =
    map-append (λ (e : Entry). e.event) before (entry ∷ [])
    ∙ ap (λ (es : List Event). es ++ entry.event ∷ []) sent
    ∙ ap (λ (event : Event). take i script ++ event ∷ []) its
    ∙ sym (take_more script i d within)
