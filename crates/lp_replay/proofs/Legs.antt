-- The legs of a run, event by event.
use Rattle.std.proofs.Common.{◌≡◌, ◌<◌, ◌≤◌, ◌+◌, ℕ, zero, suc, Bool, true, false, List, [], ◌∷◌, ◌++◌, length, take, drop, get_or, add-one, None, Some, refl, sym, ap, ap₂, ◌∙◌, arith, subst, append_assoc, length-append}
use Rattle.std.proofs.lemmas.Bool.{cond-true, cond-false}
use Rattle.std.proofs.lemmas.List.{append-nil, get_or-drop, length-drop, length-take-le, take-append-drop, take_more}
use Rattle.std.proofs.Math.ListN.{drop_of_length-le}
use Rattle.std.proofs.Math.Seq.{drop-cons}
use Rattle.lp_model.specs.Rules.{Rules}
use Rattle.lp_definitions.specs.declared.event.Event.{Event}
use Rattle.lp_definitions.specs.declared.reply.Reply.{Reply}
use Rattle.lp_definitions.specs.declared.reply.What.{What}
use Rattle.lp_model.specs.declared.check.CheckKind.{CheckKind}
use Rattle.lp_model.specs.declared.check.CheckKind.TheVariants.{Stop}
use Rattle.lp_transition.specs.Scan.{scan_event}
use Rattle.std.specs.Prelude.{◌&&◌, is_none}
use Rattle.lp_definitions.specs.Events.{is_control}
use Rattle.lp_definitions.specs.Leg.{Leg, State}
use Rattle.lp_definitions.specs.Run.{Run, and_then, first_leg, leg_after, leg_of, next_leg, opened, opens, plus, refused_by}
use Rattle.lp_machine.specs.Steps.{IsStep, OpensLegs, StandsIn}
use Rattle.lp_machine.specs.Table.{Engine, state_in}
use Rattle.lp_machine_laws.proofs.Runs.{leg_after-plus}
use Rattle.lp_checker.specs.Folds.{leg_with}
use Rattle.lp_replay.specs.Legs.{leg_numbered, opened_by, to_end}
use Rattle.lp_replay.specs.Outcome.{run_of}
use Rattle.lp_text.specs.Traces.{TraceValue}
use Rattle.lp_cert.specs.Ends.{is_opened}
use Rattle.lp_cert.proofs.Explaining.{number_is}
use Rattle.lp_cert.proofs.Opened.{opened_is}

-- a run with these events more
abbrev pub longer : Run → List Event → Run
longer run events = record run { events = run.events ++ events }

module _ (model : Rules) where
  -- a run with so many of these events stands in a state
  abbrev pub StandsAfter : Run → List Event → ℕ → Engine → Type 0
  StandsAfter run events i core = StandsIn model (longer run (take i events)) (state_in core)

  pub at_first : (run : Run) (events : List Event) (core : Engine) → StandsIn model run (state_in core) → StandsAfter run events 0 core
  at_first run events core stands =
      subst (λ (es : List Event). StandsIn model (record run { events = es }) (state_in core)) (sym (append-nil run.events)) stands

  pub at_more : (run : Run) (events : List Event) (i : ℕ) (d : Event) (new : Engine) → i < length events → StandsIn model (plus (longer run (take i events)) (get_or events i d)) (state_in new) → StandsAfter run events (i + 1) new
  at_more run events i d new below stands =
      let same : run.events ++ take (i + 1) events ≡ (run.events ++ take i events) ++ get_or events i d ∷ [] = ap (λ l. run.events ++ l) (take_more events i d below) ∙ sym (append_assoc run.events (take i events) (get_or events i d ∷ [])) in
      subst (λ (es : List Event). StandsIn model (record run { events = es }) (state_in new)) (sym same) stands

  -- a number is left for one event more
  pub numbered : (run : Run) (events : List Event) (i : ℕ) (core : Engine) → i < length events → length run.events + length events ≤ 1000000 → StandsAfter run events i core → core.number < 1000000
  numbered run events i core below few stands =
      omega (arith, few, number_is model (longer run (take i events)) core stands, length-append run.events (take i events), length-take-le i events (omega arith))

  -- what a step says, where its answer is the definitions'
  pub step_opens : (run : Run) (event : Event) (old new : Engine) (given : Reply) (b : Bool) → b ≡ is_opened event given.what → IsStep model (state_in old) event given (state_in new) → StandsIn model run (state_in old) → (b ≡ opens model (leg_of model run) event) × StandsIn model (plus run event) (state_in new)
  step_opens run event old new given b e step stands = (
    e ∙ (ap (λ (r : Reply). is_opened event r.what) (step.replies run stands) ∙ opened_is model (leg_of model run) event),
    step.reaches run stands,
  )

  not_opened : (kind : CheckKind) (what : What) → false ≡ is_opened (scan_event kind) what
  not_opened Stop what = refl
  not_opened _ what = refl

  -- the same of a scan, which opens no leg
  pub scan_opens : (run : Run) (event : Event) (kind : CheckKind) (old new : Engine) (given : Reply) → event ≡ scan_event kind → IsStep model (state_in old) (scan_event kind) given (state_in new) → StandsIn model run (state_in old) → (false ≡ opens model (leg_of model run) event) × StandsIn model (plus run event) (state_in new)
  scan_opens run event kind old new given is step stands =
      step_opens run event old new given false (not_opened kind given.what ∙ ap (λ e. is_opened e given.what) (sym is)) (subst (λ (e : Event). IsStep model (state_in old) e given (state_in new)) (sym is) step) stands

  -- the leg after so many of these events is the first with those, and ends as the first does
  pub record GoesOn (leg : Leg) (events : List Event) (i : ℕ) (now : Leg) : Type 0 where
    pub there : now ≡ record leg { events = leg.events ++ take i events }
    pub ends : to_end model leg events ≡ to_end model now (drop i events)

  pub goes_first : (leg : Leg) (events : List Event) → GoesOn leg events 0 leg
  goes_first leg events = record { there = ap (λ (es : List Event). record leg { events = es }) (sym (append-nil leg.events)); ends = refl }

  next_other : (leg : Leg) (event : Event) → opens model leg event ≡ false → next_leg model leg event ≡ and_then leg event
  unfolding next_leg
  next_other leg event e = cond-false _ _ _ e

  next_opened : (leg : Leg) (event : Event) → opens model leg event ≡ true → next_leg model leg event ≡ opened model leg event
  unfolding next_leg
  next_opened leg event e = cond-true _ _ _ e

  end_other : (leg : Leg) (event : Event) (events : List Event) → opens model leg event ≡ false → to_end model leg (event ∷ events) ≡ to_end model (and_then leg event) events
  unfolding to_end
  end_other leg event events e = cond-false _ _ _ e

  end_opened : (leg : Leg) (event : Event) (events : List Event) → opens model leg event ≡ true → to_end model leg (event ∷ events) ≡ leg
  unfolding to_end
  end_opened leg event events e = cond-true _ _ _ e

  end_last : (leg : Leg) (events : List Event) → events ≡ [] → to_end model leg events ≡ leg
  unfolding to_end
  end_last leg events e = ap (to_end model leg) e

  module _ (leg : Leg) (events : List Event) (i : ℕ) (d : Event) (now : Leg) (on : GoesOn leg events i now) where
    pub goes_more : i < length events → opens model now (get_or events i d) ≡ false → GoesOn leg events (i + 1) (next_leg model now (get_or events i d))
    goes_more below e =
        let event = get_or events i d in
        record {
          there = next_other now event e
              ∙ (ap (λ (l : Leg). and_then l event) on.there
              ∙ ap (λ (es : List Event). record leg { events = es }) (append_assoc leg.events (take i events) (event ∷ []) ∙ ap (λ l. leg.events ++ l) (sym (take_more events i d below))));
          ends = on.ends
              ∙ (ap (to_end model now) (drop-cons events i d below)
              ∙ (end_other now event (drop (suc i) events) e
              ∙ (ap (λ l. to_end model l (drop (suc i) events)) (sym (next_other now event e)) ∙ ap (λ n. to_end model (next_leg model now event) (drop n events)) (sym (add-one i)))));
        }

    pub ends_opened : i < length events → opens model now (get_or events i d) ≡ true → to_end model leg events ≡ record leg { events = leg.events ++ take i events }
    ends_opened below e =
        on.ends ∙ (ap (to_end model now) (drop-cons events i d below) ∙ (end_opened now (get_or events i d) (drop (suc i) events) e ∙ on.there))

    pub ends_last : length events ≤ i → to_end model leg events ≡ record leg { events = leg.events ++ take i events }
    ends_last all = on.ends ∙ (end_last now (drop i events) (drop_of_length-le events all) ∙ on.there)

  -- events of which none is a control event belong to the leg
  ends_all : (leg : Leg) (events : List Event) → ((k : ℕ) (d : Event) → k < length events → is_control (get_or events k d) ≡ false) → to_end model leg events ≡ record leg { events = leg.events ++ events }
  unfolding to_end
  ends_all leg [] none = ap (λ (es : List Event). record leg { events = es }) (sym (append-nil leg.events))
  ends_all leg (event ∷ rest) none =
      end_other leg event rest (ap (λ b. b && is_none (refused_by model leg event)) (none 0 event (omega arith)))
      ∙ (ends_all (and_then leg event) rest (λ k d below. none (suc k) d (omega arith))
      ∙ ap (λ (es : List Event). record leg { events = es }) (append_assoc leg.events (event ∷ []) rest))

  pub ends_at : (leg : Leg) (events : List Event) (i : ℕ) (now : Leg) → GoesOn leg events i now → ((k : ℕ) (d : Event) → i ≤ k → k < length events → is_control (get_or events k d) ≡ false) → to_end model leg events ≡ record leg { events = leg.events ++ events }
  ends_at leg events i now on none =
      on.ends
      ∙ (ends_all now (drop i events) (λ k d below. ap is_control (get_or-drop i events k d) ∙ none (i + k) d (omega arith) (omega (arith, length-drop i events)))
      ∙ (ap (λ (l : Leg). record l { events = l.events ++ drop i events }) on.there
      ∙ ap (λ (es : List Event). record leg { events = es }) (append_assoc leg.events (take i events) (drop i events) ∙ ap (λ l. leg.events ++ l) (take-append-drop i events))))

  -- ---- The leg that an event opens

  leg_next : (run : Run) (event : Event) → leg_of model (plus run event) ≡ next_leg model (leg_of model run) event
  leg_next run event = leg_after-plus model (first_leg model run) run.events event

  pub leg_longer : (run : Run) (events : List Event) (i : ℕ) (d : Event) → i < length events → leg_of model (longer run (take (i + 1) events)) ≡ next_leg model (leg_of model (longer run (take i events))) (get_or events i d)
  leg_longer run events i d below =
      let same : run.events ++ take (i + 1) events ≡ (run.events ++ take i events) ++ get_or events i d ∷ [] = ap (λ l. run.events ++ l) (take_more events i d below) ∙ sym (append_assoc run.events (take i events) (get_or events i d ∷ [])) in
      ap (λ (es : List Event). leg_of model (record run { events = es })) same ∙ leg_next (longer run (take i events)) (get_or events i d)

  pub leg_first : (run : Run) (events : List Event) → leg_of model (longer run (take 0 events)) ≡ leg_of model run
  leg_first run events = ap (λ (es : List Event). leg_of model (record run { events = es })) (append-nil run.events)

  pub none_opened : (run : Run) (event : Event) (rest : List Event) → opens model (leg_of model run) event ≡ false → None ≡ opened_by model (leg_of model run) (event ∷ rest)
  none_opened run event rest e = sym (cond-false _ _ _ e)

  pub opened_at : (run : Run) (event : Event) (rest : List Event) (opening : Engine) (count : ℕ) → opens model (leg_of model run) event ≡ true → StandsIn model (plus run event) (state_in opening) → OpensLegs model (state_in opening)
      → to_end model (leg_of model (plus run event)) rest ≡ record (leg_of model (plus run event)) { events = (leg_of model (plus run event)).events ++ take count rest }
      → Some (leg_with opening (take count rest)) ≡ opened_by model (leg_of model run) (event ∷ rest)
  opened_at run event rest opening count e stands opens ends =
      let leg = leg_of model (plus run event) in
      let next : leg ≡ opened model (leg_of model run) event = leg_next run event ∙ next_opened (leg_of model run) event e in
      let none : leg.events ≡ [] = ap (λ (l : Leg). l.events) next in
      let there : state_in opening ≡ leg.opening = opens run event e stands in
      ap₂ (λ (s : State) (es : List Event). Some (record { opening = s; events = es })) there (ap (λ l. l ++ take count rest) (sym none))
      ∙ (ap Some (sym ends)
      ∙ (ap (λ l. Some (to_end model l rest)) (leg_next run event) ∙ sym (cond-true _ _ _ e)))

  -- ---- The leg that the event of a number opens

  pub nowhere : (trace : TraceValue) (number : ℕ) → number ≡ 0 → None ≡ leg_numbered model trace number
  unfolding leg_numbered
  nowhere trace zero e = refl
  nowhere trace (suc place) e = absurd (omega (arith, e))

  pub too_late : (trace : TraceValue) (number : ℕ) → length trace.events < number → None ≡ leg_numbered model trace number
  unfolding leg_numbered
  too_late trace zero late = refl
  too_late trace (suc place) late =
      sym (ap (opened_by model (leg_after model (first_leg model (run_of trace)) (take place trace.events))) (drop_of_length-le trace.events (omega arith)))

  pub numbered_at : (trace : TraceValue) (number place : ℕ) → number ≡ suc place → leg_numbered model trace number ≡ opened_by model (leg_of model (longer (run_of trace) (take place trace.events))) (drop place trace.events)
  unfolding leg_numbered
  numbered_at trace number place e = ap (leg_numbered model trace) e
