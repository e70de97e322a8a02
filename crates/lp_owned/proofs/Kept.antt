-- A book with its parts, one entry longer.
use Rattle.std.proofs.Common.{◌≡◌, ◌⊎◌, ℕ, Bool, true, false, not, ◌||◌, List, [], ◌∷◌, ◌++◌, Option, Some, None, is_some, nat_eq, if◌then◌else◌, refl, sym, ap, subst, ◌∙◌, ⊎_elim, inl, inr}
use Rattle.std.specs.Prelude.{filter, IfSome, MatchOption}
use Rattle.std.specs.Option.{option_map}
use Rattle.std.specs.List.{list_any}
use Rattle.std.proofs.lemmas.Bool.{cases_Bool, cond-false, eqb-true, eq-eqb}
use Rattle.std.proofs.lemmas.List.Folds.{list_any-append}
use Rattle.lp_stack.specs.declared.number.TaskId.{TaskId}
use Rattle.lp_stack.specs.declared.view.Class.{Class}
use Rattle.lp_patch.specs.Patches.{Patches}
use Rattle.lp_model.specs.Rules.{Rules, IsLawful}
use Rattle.lp_definitions.specs.declared.event.Event.{Event}
use Rattle.lp_definitions.specs.declared.reply.Reply.{Reply}
use Rattle.lp_definitions.specs.declared.reply.What.{What}
use Rattle.lp_definitions.specs.Tasks.{is_unused}
use Rattle.lp_transition.specs.Boot.{boot_refusal}
use Rattle.lp_definitions.specs.Leg.{State}
use Rattle.lp_machine.specs.Machine.{next, answer}
use Rattle.lp_definitions.specs.Run.{Run}
use Rattle.lp_machine.specs.Steps.{StandsIn}
use Rattle.lp_machine.specs.Table.{bounds_of}
use Rattle.lp_machine_laws.proofs.Runs.{steps_as_defined}
use Rattle.lp_board.specs.Names.{Name, state_after, run_of as named_run}
use Rattle.lp_board.proofs.Runs.{stands-there, after-more}
use Rattle.lp_log.specs.Audits.{brought_by, control_part, is_nobodys, is_number, is_of, part_of, was_used}
use Rattle.lp_log.specs.Entries.{Entry}
use Rattle.lp_log.specs.Journals.{Written, and_entry, events_in, next_entry, reply_to, run_of}
use Rattle.lp_log.specs.Seats.{Seated, brought, child_seat, new_seat, owner}
use Rattle.lp_log.proofs.Longer.{map_append}
use Rattle.lp_desk.specs.Books.{IsOf, first_journal}
use Rattle.lp_parts.specs.Parts.{Among, Whole, part_for, same_key}
use Rattle.lp_owned.specs.Owned.{IsKept, is_boot, key_of}
use Rattle.lp_owned.proofs.Turns.{in_turn_more, or_none, starts_used}
use Rattle.lp_owned.proofs.Used.{child_is_new, next_used}

or_left : (a b : Bool) → a ≡ true → (a || b) ≡ true
or_left true b e = refl
or_left false b e = absurd (cc)

or_right : (a b : Bool) → b ≡ true → (a || b) ≡ true
or_right true b e = refl
or_right false b e = e

or_cases : (a b : Bool) → (a || b) ≡ true → (a ≡ true) ⊎ (b ≡ true)
or_cases true b e = inl refl
or_cases false b e = inr e

is_the_number : (t : ℕ) (o : Option ℕ) → is_number t o ≡ true → o ≡ Some t
is_the_number t None e = absurd (cc)
is_the_number t (Some u) e = ap Some (sym (eqb-true t u e))

the_number : (t : ℕ) (o : Option ℕ) → o ≡ Some t → is_number t o ≡ true
the_number t o e = ap (is_number t) e ∙ eq-eqb t t refl

abbrev of_parts : Patches → List (TaskId × Class) → List Event → Run
of_parts patches boots events = record { bounds = bounds_of patches; patches = patches; boots = boots; events = events }

-- none is there, where none passes
no_part : (k : Option ℕ) (entries : List Entry) → list_any (λ e. same_key k (key_of e)) entries ≡ false → part_for key_of k entries ≡ []
no_part k [] none = refl
no_part k (e ∷ es) none = at (same_key k (key_of e)) refl none (λ n. no_part k es n)
  where
    at : (b : Bool) → same_key k (key_of e) ≡ b → (b || list_any (λ x. same_key k (key_of x)) es) ≡ false → (list_any (λ x. same_key k (key_of x)) es ≡ false → part_for key_of k es ≡ []) → part_for key_of k (e ∷ es) ≡ []
    at true is n rest = absurd (cc)
    at false is n rest = cond-false (same_key k (key_of e)) (e ∷ part_for key_of k es) (part_for key_of k es) is ∙ rest n

same_number : (t : ℕ) (o : Option ℕ) → same_key (Some t) o ≡ is_number t o
same_number t None = refl
same_number t (Some u) = refl

any_same : (t : ℕ) (entries : List Entry) → list_any (λ e. same_key (Some t) (key_of e)) entries ≡ list_any (is_of t) entries
any_same t [] = refl
any_same t (e ∷ es) =
    ap (λ (b : Bool). b || list_any (λ x. same_key (Some t) (key_of x)) es) (same_number t (key_of e))
    ∙ ap (λ (b : Bool). is_of t e || b) (any_same t es)

filter_same : (p q : Entry → Bool) → ((e : Entry) → p e ≡ q e) → (es : List Entry) → filter p es ≡ filter q es
filter_same p q same [] = refl
filter_same p q same (e ∷ es) = λ i. if same e i then (e ∷ filter_same p q same es i) else filter_same p q same es i

-- the part of a task's key is the task's part
pub part_is : (t : ℕ) (entries : List Entry) → part_for key_of (Some t) entries ≡ part_of t entries
part_is t entries = filter_same (λ e. same_key (Some t) (key_of e)) (is_of t) (λ e. same_number t (key_of e)) entries

same_none : (o : Option ℕ) → same_key None o ≡ not (is_some o)
same_none None = refl
same_none (Some u) = refl

-- the part of nobody's key is the control's part
pub nobodys_part_is : (entries : List Entry) → part_for key_of None entries ≡ control_part entries
nobodys_part_is entries = filter_same (λ e. same_key None (key_of e)) is_nobodys (λ e. same_none (key_of e)) entries

-- a keeper with the same entries and the same owners
pub kept_as : (name : Name) (journal : Written) (whole other : Whole Entry) → IsKept name journal whole → other.all ≡ whole.all → other.out ≡ whole.out → IsKept name journal other
kept_as name journal whole other kept all out = record {
  boots = kept.boots;
  in_turn = kept.in_turn;
  all = all ∙ kept.all;
  out = λ t at. kept.out t (subst (Among (Some t)) out at);
  entries = kept.entries;
  used = kept.used;
}

-- a book that has taken no event
pub kept_first : (name : Name) (whole : Whole Entry) → boot_refusal name.boots ≡ None → whole.all ≡ [] → ((t : ℕ) → Among (Some t) whole.out → was_used (first_journal name) t ≡ true) → IsKept name (first_journal name) whole
kept_first name whole free all out = record {
  boots = free;
  all = all;
  out = out;
  entries = λ t any. absurd (let no : false ≡ true = any in cc);
  used = λ t u. starts_used name t (sym (or_none (is_boot name.boots t)) ∙ u);
  in_turn = tt;
}

-- what holds of the child's seat, if an event brought one
pub child_if : (child : Option Seated) (event : Event) (what : What) (P : Seated → Type 0) → child ≡ child_seat event what → ((c : ℕ) → brought event what ≡ Some c → P (new_seat c)) → IfSome child P
child_if child event what P is each = subst (λ (o : Option Seated). IfSome o P) (sym is) (at (brought event what) each)
  where
    at : (o : Option ℕ) → ((c : ℕ) → o ≡ Some c → P (new_seat c)) → IfSome (option_map new_seat o) P
    at None f = tt
    at (Some c) f = f c refl

module _ (name : Name) (model : Rules) (lawful : IsLawful model) (journal : Written) (named : IsOf name model journal) (s : State) (stands : StandsIn model (run_of journal) s) (event : Event) (given : Reply) (is : given ≡ reply_to model journal event) where
  abbrev entry : Entry
  entry = next_entry journal.entries event given

  abbrev longer : Written
  longer = and_entry journal event given

  same_run : run_of journal ≡ named_run name (events_in journal.entries)
  same_run =
      ap (λ (patches : Patches). of_parts patches journal.boots (events_in journal.entries)) (sym named.patches)
      ∙ ap (λ (boots : List (TaskId × Class)). of_parts name.patches boots (events_in journal.entries)) (sym named.boots)

  stands_there : StandsIn model (named_run name (events_in journal.entries)) s
  stands_there = subst (λ (run : Run). StandsIn model run s) same_run stands

  here : s ≡ state_after name (events_in journal.entries)
  here = stands-there name model (events_in journal.entries) s named.model stands_there

  there : next model s event ≡ state_after name (events_in longer.entries)
  there =
      after-more name model lawful (events_in journal.entries) s event named.model stands_there
      ∙ ap (state_after name) (sym (map_append (λ (e : Entry). e.event) journal.entries (entry ∷ [])))

  answered : given ≡ answer model s event
  answered = is ∙ sym (((steps_as_defined model lawful).steps s event).replies (run_of journal) stands)

  -- who was used, and the child that the event brought
  used_longer : (t : ℕ) → was_used longer t ≡ (was_used journal t || is_number t (brought event given.what))
  used_longer t =
      ap (λ (b : Bool). list_any (λ boot. nat_eq t boot.0.0) journal.boots || b) (list_any-append (λ (e : Entry). is_number t (brought_by e)) journal.entries (entry ∷ []))
      ∙ shift (list_any (λ boot. nat_eq t boot.0.0) journal.boots) (list_any (λ (e : Entry). is_number t (brought_by e)) journal.entries) (is_number t (brought event given.what))
    where
      shift : (a b c : Bool) → (a || (b || (c || false))) ≡ ((a || b) || c)
      shift true b c = refl
      shift false true c = refl
      shift false false true = refl
      shift false false false = refl

  still_used : (t : ℕ) → was_used journal t ≡ true → was_used longer t ≡ true
  still_used t u = used_longer t ∙ or_left (was_used journal t) _ u

  module _ (whole : Whole Entry) (kept : IsKept name journal whole) where
    was_in : (t : ℕ) → was_used journal t ≡ true → is_unused (s.tasks t) ≡ false
    was_in t u = ap (λ (now : State). is_unused (now.tasks t)) here ∙ kept.used t u

    -- the child that the event brought had never been
    pub child_is_new_here : (c : ℕ) → brought event given.what ≡ Some c → was_used journal c ≡ false
    child_is_new_here c b =
        ⊎_elim
        (λ (u : was_used journal c ≡ true). absurd (clash (is_unused (s.tasks c)) (child_is_new model s event c (ap (λ (r : Reply). brought event r.what) (sym answered) ∙ b)).new (was_in c u)))
        (λ (u : was_used journal c ≡ false). u)
        (cases_Bool (was_used journal c))
      where
        clash : (b : Bool) → b ≡ true → b ≡ false → ⊥
        clash true e f = cc
        clash false e f = cc

    -- with one entry more of somebody who was used, or of nobody
    pub kept_longer : ((t : ℕ) → owner event ≡ Some t → was_used journal t ≡ true) → IsKept name longer (record { all = whole.all ++ entry ∷ []; out = whole.out })
    kept_longer whose = record {
      boots = kept.boots;
      in_turn = in_turn_more (is_boot journal.boots) journal.entries entry kept.in_turn (record { sender = whose; child = child_is_new_here });
      all = ap (λ (es : List Entry). es ++ entry ∷ []) kept.all;
      out = λ t at. still_used t (kept.out t at);
      entries = λ t any. ⊎_elim
          (λ (before : list_any (is_of t) journal.entries ≡ true). still_used t (kept.entries t before))
          (λ (now : (is_number t (owner event) || false) ≡ true). ⊎_elim
          (λ (own : is_number t (owner event) ≡ true). still_used t (whose t (is_the_number t (owner event) own)))
          (λ (no : false ≡ true). absurd (cc))
          (or_cases _ _ now))
          (or_cases _ _ (sym (list_any-append (is_of t) journal.entries (entry ∷ [])) ∙ any));
      used = λ t u. ap (λ (now : State). is_unused (now.tasks t)) (sym there) ∙ ⊎_elim
          (λ (before : was_used journal t ≡ true). next_used model s event t (was_in t before))
          (λ (born : is_number t (brought event given.what) ≡ true).
          (child_is_new model s event t (ap (λ (r : Reply). brought event r.what) (sym answered) ∙ is_the_number t (brought event given.what) born)).after)
          (or_cases _ _ (sym (used_longer t) ∙ u));
    }

    -- nobody owns the child's part, and nothing is there of it
    pub child_is_free : (c : ℕ) → brought event given.what ≡ Some c → Among (Some c) whole.out → ⊥
    child_is_free c b at = absurd (clash (was_used journal c) (kept.out c at) (child_is_new_here c b))
      where
        clash : (b : Bool) → b ≡ true → b ≡ false → ⊥
        clash true e f = cc
        clash false e f = cc

    pub child_has_none : ((t : ℕ) → owner event ≡ Some t → was_used journal t ≡ true) → (c : ℕ) → brought event given.what ≡ Some c → part_for key_of (Some c) (whole.all ++ entry ∷ []) ≡ []
    child_has_none whose c b =
        ap (λ (es : List Entry). part_for key_of (Some c) (es ++ entry ∷ [])) kept.all
        ∙ no_part (Some c) longer.entries (any_same c longer.entries ∙ none)
      where
        clash : (b : Bool) → b ≡ true → b ≡ false → ⊥
        clash true e f = cc
        clash false e f = cc

        none : list_any (is_of c) longer.entries ≡ false
        none =
            ⊎_elim
            (λ (any : list_any (is_of c) longer.entries ≡ true). ⊎_elim
            (λ (before : list_any (is_of c) journal.entries ≡ true). absurd (clash (was_used journal c) (kept.entries c before) (child_is_new_here c b)))
            (λ (now : (is_number c (owner event) || false) ≡ true). ⊎_elim
            (λ (own : is_number c (owner event) ≡ true). absurd (clash (was_used journal c) (whose c (is_the_number c (owner event) own)) (child_is_new_here c b)))
            (λ (no : false ≡ true). absurd (cc))
            (or_cases _ _ now))
            (or_cases _ _ (sym (list_any-append (is_of c) journal.entries (entry ∷ [])) ∙ any)))
            (λ (no : list_any (is_of c) longer.entries ≡ false). no)
            (cases_Bool (list_any (is_of c) longer.entries))

    -- and the child's part can be given out
    pub kept_with_child : (all : Whole Entry) → IsKept name longer all → (c : ℕ) → brought event given.what ≡ Some c → IsKept name longer (record { all = all.all; out = Some c ∷ all.out })
    kept_with_child all is_kept c b = record {
      boots = is_kept.boots;
      in_turn = is_kept.in_turn;
      all = is_kept.all;
      out = λ t at. ⊎_elim
          (λ (here : Some c ≡ Some t). used_longer t ∙ or_right (was_used journal t) _ (the_number t (brought event given.what) (b ∙ here)))
          (λ (later : Among (Some t) all.out). is_kept.out t later)
          at;
      entries = is_kept.entries;
      used = is_kept.used;
    }

    -- with the child's part, if there is a child
    pub kept_seated : (child : Option Seated) (before after : Whole Entry) → IsKept name longer before → child ≡ child_seat event given.what → after.all ≡ before.all
        → MatchOption child (after.out ≡ before.out) (λ seat. after.out ≡ Some seat.task ∷ before.out) → IsKept name longer after
    kept_seated child before after is_kept is all out =
        at (brought event given.what) refl (subst (λ (o : Option Seated). MatchOption o (after.out ≡ before.out) (λ seat. after.out ≡ Some seat.task ∷ before.out)) is out)
      where
        at : (o : Option ℕ) → brought event given.what ≡ o → MatchOption (option_map new_seat o) (after.out ≡ before.out) (λ seat. after.out ≡ Some seat.task ∷ before.out) → IsKept name longer after
        at None none more = kept_as name longer before after is_kept all more
        at (Some c) some more = kept_as name longer (record { all = before.all; out = Some c ∷ before.out }) after (kept_with_child before is_kept c some) all more
