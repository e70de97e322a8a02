-- The end of the first leg stays the same once the leg is complete, or has ended.
use Rattle.std.proofs.Common.{◌≡◌, ◌<◌, ◌≤◌, ◌+◌, ◌↔◌, IsTrue, ℕ, suc, Bool, true, false, List, [], ◌∷◌, ◌++◌, length, map, take, drop, get_or, Option, Some, None, option_to_list, is_some, if◌then◌else◌, refl, sym, ap, ap₂, ◌∙◌, append_assoc, subst, arith}
use Rattle.std.specs.Prelude.{slice_get}
use Rattle.std.specs.Option.{option_map, option_or}
use Rattle.std.proofs.lemmas.Bool.{false≢true}
use Rattle.std.proofs.lemmas.List.{append-nil, take_all, take_more, take-append-drop}
use Rattle.lp_model.specs.Rules.{Rules}
use Rattle.lp_definitions.specs.declared.event.Event.{Event}
use Rattle.lp_definitions.specs.Leg.{Leg}
use Rattle.lp_definitions.specs.Run.{Run, and_then, first_leg, is_complete_now, leg_after, leg_of, next_leg, opened, opens, plus}
use Rattle.lp_definitions.specs.Ends.{LegEnd, end_of}
use Rattle.lp_definitions.specs.declared.cert.Cert.{Cert}
use Rattle.lp_definitions.specs.Certificates.{certs_by, completion, legs}
use Rattle.lp_cert.specs.Ends.{Made, IsMadeOf, ended_legs, is_complete_in, under_way}
use Rattle.lp_cert.specs.Explained.{Explained, IsExplained}
use Rattle.lp_laws.proofs.Completions.{certs_kept, completion_below, completion_up}
use Rattle.lp_cert.proofs.Tellings.{legs_made}
use Rattle.lp_definitions.specs.Outcome.{leg_ends}
use Rattle.lp_replay.specs.inside.Recording.{first_made}
use Rattle.lp_replay.proofs.Legs.{longer}

pub some_there : {X : Type 0} (xs : List X) (is_empty : Bool) → IsTrue is_empty ↔ (xs ≡ []) → is_empty ≡ false → 0 < length xs
some_there [] is_empty decides some = absurd (false≢true (sym some ∙ decides.1 refl))
some_there (x ∷ xs) is_empty decides some = omega arith

module _ (model : Rules) where
  -- the legs that ended by some events are the first of the legs of more events
  legs-append : (leg : Leg) (events more : List Event) → legs model leg (events ++ more) ≡ ended_legs model leg events ++ legs model (leg_after model leg events) more
  unfolding legs ended_legs leg_after
  legs-append leg [] more = refl
  legs-append leg (event ∷ events) more =
      ap (λ rest. (if opens model leg event then leg ∷ [] else []) ++ rest) (legs-append (next_leg model leg event) events more)
      ∙ sym (append_assoc (if opens model leg event then leg ∷ [] else []) (ended_legs model (next_leg model leg event) events) (legs model (leg_after model (next_leg model leg event) events) more))

  -- the first of the legs that ended, where what stands before the first control event is none of them
  first_of : (before rest : List Leg) (ended current : List LegEnd) → ended ≡ map (end_of model) (drop 1 before) → 0 < length ended → slice_get (ended ++ current) 0 ≡ slice_get (map (end_of model) (drop 1 (before ++ rest))) 0
  first_of [] rest ended current e some = let none : length ended ≡ 0 = ap length e in absurd (omega arith)
  first_of (leg ∷ []) rest ended current e some = let none : length ended ≡ 0 = ap length e in absurd (omega arith)
  first_of (leg ∷ first ∷ others) rest ended current e some = ap (λ ends. slice_get (ends ++ current) 0) e

  pub first-ended : (run : Run) (more : List Event) (made : Made) → IsMadeOf model run made → 0 < length made.ended → first_made made ≡ slice_get (leg_ends model (first_leg model run) (run.events ++ more)) 0
  first-ended run more made is some =
      first_of (ended_legs model (first_leg model run) run.events) (legs model (leg_of model run) more) made.ended (option_to_list made.current) is.ended some
      ∙ ap (λ ls. slice_get (map (end_of model) (drop 1 ls)) 0) (sym (legs-append (first_leg model run) run.events more))

  pub first-all : (run : Run) (made : Made) → IsMadeOf model run made → first_made made ≡ slice_get (leg_ends model (first_leg model run) run.events) 0
  first-all run made is = ap (λ ends. slice_get ends 0) (legs_made model run made is)

  -- ---- Where it is complete

  -- a leg's end by its moment
  abbrev end_with : Leg → Option ℕ → List Cert → LegEnd
  end_with leg done certs = record { opened = leg.number; target = record { 0 = leg.target }; completed = option_map (λ k. leg.number + k) done; certs = certs }

  -- an event more leaves the end of a leg that is complete
  end_kept : (leg : Leg) (event : Event) (k : ℕ) → completion model leg ≡ Some k → end_of model (and_then leg event) ≡ end_of model leg
  end_kept leg event k done =
      let more = and_then leg event in
      let still : completion model more ≡ Some k =
      completion_up model leg event ∙ ap (λ o. option_or o (if is_complete_now model more then Some (suc (length leg.events)) else None)) done in
      ap (λ o. end_with leg o (certs_by model more o)) still
      ∙ (ap (λ certs. end_with leg (Some k) certs) (certs_kept model leg event k (completion_below model leg k done))
      ∙ sym (ap (λ o. end_with leg o (certs_by model leg o)) done))

  first_by : (leg : Leg) (event : Event) (events : List Event) → slice_get (map (end_of model) (legs model (and_then leg event) events)) 0 ≡ Some (end_of model leg)
      → (b : Bool) → slice_get (map (end_of model) ((if b then leg ∷ [] else []) ++ legs model (if b then opened model leg event else and_then leg event) events)) 0 ≡ Some (end_of model leg)
  first_by leg event events on true = refl
  first_by leg event events on false = on

  -- so its end is that of the first of its legs
  complete-first : (leg : Leg) (events : List Event) (k : ℕ) → completion model leg ≡ Some k → slice_get (map (end_of model) (legs model leg events)) 0 ≡ Some (end_of model leg)
  unfolding legs next_leg
  complete-first leg [] k done = refl
  complete-first leg (event ∷ events) k done =
      let more = and_then leg event in
      let still : completion model more ≡ Some k =
      completion_up model leg event ∙ ap (λ o. option_or o (if is_complete_now model more then Some (suc (length leg.events)) else None)) done in
      first_by leg event events (complete-first more events k still ∙ ap Some (end_kept leg event k done)) (opens model leg event)

  moment : (leg : Leg) (o : Option ℕ) → is_some (option_map (λ k. leg.number + k) o) ≡ true → (k : ℕ) × (o ≡ Some k)
  moment leg None done = absurd (false≢true done)
  moment leg (Some k) done = (k, refl)

  first_done : (before : List Leg) (leg : Leg) (more : List Event) (ended : List LegEnd) (current : Option LegEnd) → ended ≡ map (end_of model) (drop 1 before)
      → current ≡ option_map (end_of model) (under_way model before leg) → is_complete_in current ≡ true
      → slice_get (ended ++ option_to_list current) 0 ≡ slice_get (map (end_of model) (drop 1 (before ++ legs model leg more))) 0
  first_done [] leg more ended current e is done = absurd (false≢true (sym (ap is_complete_in is) ∙ done))
  first_done (first ∷ []) leg more ended current e is done =
      let at = moment leg (completion model leg) (sym (ap is_complete_in is) ∙ done) in
      ap₂ (λ (es : List LegEnd) (o : Option LegEnd). slice_get (es ++ option_to_list o) 0) e is ∙ sym (complete-first leg more at.0 at.1)
  first_done (first ∷ second ∷ others) leg more ended current e is done = ap (λ (es : List LegEnd). slice_get (es ++ option_to_list current) 0) e

  pub first-complete : (run : Run) (more : List Event) (made : Made) → IsMadeOf model run made → is_complete_in made.current ≡ true → first_made made ≡ slice_get (leg_ends model (first_leg model run) (run.events ++ more)) 0
  first-complete run more made is done =
      first_done (ended_legs model (first_leg model run) run.events) (leg_of model run) more made.ended made.current is.ended is.current done
      ∙ ap (λ ls. slice_get (map (end_of model) (drop 1 ls)) 0) (sym (legs-append (first_leg model run) run.events more))

  -- ---- With so many of these events

  -- the engine is that of the run with so many of these events, and so is what is made
  abbrev pub IsExplainedAfter : Run → List Event → ℕ → Explained → Type 0
  IsExplainedAfter run events i explained = IsExplained model (longer run (take i events)) explained

  pub explained_none : (run : Run) (events : List Event) (explained : Explained) → IsExplained model run explained → IsExplainedAfter run events 0 explained
  explained_none run events explained is =
      subst (λ (es : List Event). IsExplained model (record run { events = es }) explained) (sym (append-nil run.events)) is

  pub explained_more : (run : Run) (events : List Event) (i : ℕ) (d : Event) (explained : Explained) → i < length events → IsExplained model (plus (longer run (take i events)) (get_or events i d)) explained → IsExplainedAfter run events (i + 1) explained
  explained_more run events i d explained below is =
      let same : run.events ++ take (i + 1) events ≡ (run.events ++ take i events) ++ get_or events i d ∷ [] = ap (λ l. run.events ++ l) (take_more events i d below) ∙ sym (append_assoc run.events (take i events) (get_or events i d ∷ [])) in
      subst (λ (es : List Event). IsExplained model (record run { events = es }) explained) (sym same) is

  -- the leg ended by one of them
  pub ended_early : (run : Run) (events : List Event) (i : ℕ) (made : Made) → IsMadeOf model (longer run (take i events)) made → 0 < length made.ended → first_made made ≡ slice_get (leg_ends model (first_leg model run) (run.events ++ events)) 0
  ended_early run events i made is some =
      first-ended (longer run (take i events)) (drop i events) made is some
      ∙ ap (λ (es : List Event). slice_get (leg_ends model (first_leg model run) es) 0) (append_assoc run.events (take i events) (drop i events) ∙ ap (λ (es : List Event). run.events ++ es) (take-append-drop i events))

  -- the leg was complete after one of them
  pub complete_early : (run : Run) (events : List Event) (i : ℕ) (made : Made) → IsMadeOf model (longer run (take i events)) made → is_complete_in made.current ≡ true → first_made made ≡ slice_get (leg_ends model (first_leg model run) (run.events ++ events)) 0
  complete_early run events i made is done =
      first-complete (longer run (take i events)) (drop i events) made is done
      ∙ ap (λ (es : List Event). slice_get (leg_ends model (first_leg model run) es) 0) (append_assoc run.events (take i events) (drop i events) ∙ ap (λ (es : List Event). run.events ++ es) (take-append-drop i events))

  -- it ended by none of them, or isn't there
  pub ended_last : (run : Run) (events : List Event) (i : ℕ) (made : Made) → length events ≤ i → IsMadeOf model (longer run (take i events)) made → first_made made ≡ slice_get (leg_ends model (first_leg model run) (run.events ++ events)) 0
  ended_last run events i made past is =
      first-all (longer run events) made (subst (λ (es : List Event). IsMadeOf model (longer run es) made) (take_all i events past) is)
