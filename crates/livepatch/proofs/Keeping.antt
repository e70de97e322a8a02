-- What a simulator keeps of a run, at its start and after each event.
use Rattle.std.proofs.Common.{◌≡◌, ◌≤◌, ◌+◌, ◌-◌, ℕ, Bool, true, false, List, [], ◌∷◌, ◌++◌, length, drop, take, Option, Some, None, IsSome, is_some, refl, sym, ap, ap₂, ◌∙◌, arith, subst, length-append}
use Rattle.std.proofs.lemmas.Bool.{cond-true, cond-false}
use Rattle.std.proofs.lemmas.List.{drop-append-le}
use Rattle.std.proofs.Math.ListN.{drop_of_length-le}
use Rattle.std.proofs.Math.Seq.{take-append_seam}
use Rattle.lp_model.specs.Rules.{Rules}
use Rattle.lp_definitions.specs.declared.event.Event.{Event}
use Rattle.lp_definitions.specs.declared.reply.Reply.{Reply}
use Rattle.lp_definitions.specs.Leg.{Leg, State}
use Rattle.lp_machine.specs.Machine.{state_of}
use Rattle.lp_definitions.specs.Run.{Run, and_then, first_leg, leg_after, leg_of, next_leg, opened, opens, plus}
use Rattle.lp_machine.specs.Steps.{IsStep, StandsIn}
use Rattle.lp_machine.specs.Table.{Engine, no_scan, state_in}
use Rattle.lp_transition.specs.Blames.{blame_of}
use Rattle.lp_machine_laws.proofs.Runs.{leg_after-plus}
use Rattle.lp_machine_laws.proofs.Steps.{open_shown}
use Rattle.lp_cert.specs.Ends.{is_opened}
use Rattle.lp_cert.specs.Explained.{Explained, IsExplained}
use Rattle.lp_cert.proofs.Explaining.{explained_first}
use Rattle.lp_cert.proofs.Opened.{opened_is}
use Rattle.lp_checker.specs.Folds.{leg_with}
use Rattle.livepatch.specs.Simulated.{IsKept}

-- ---- The journal

-- without its last event it is as it was before
pub taken_back : (es : List Event) (e : Event) → take (length (es ++ e ∷ []) - 1) (es ++ e ∷ []) ≡ es
taken_back es e = ap (λ (n : ℕ). take n (es ++ e ∷ [])) (omega (arith, length-append es (e ∷ []))) ∙ take-append_seam es (e ∷ [])

module _ (model : Rules) where
  -- ---- At the start

  begins : (run : Run) → run.events ≡ [] → leg_of model run ≡ first_leg model run
  unfolding leg_after
  begins run none = ap (leg_after model (first_leg model run)) none

  pub kept_first : (run : Run) (core : Engine) (known : Explained) → run.events ≡ [] → StandsIn model run (state_in core) → core.last_scan.kind ≡ None → ((group : ℕ) → blame_of core group ≡ None) → known ≡ record { core = core; ended = []; current = None } → IsKept model run known None
  kept_first run core known none stands unscanned blameless fresh =
      record {
        explained = subst (IsExplained model run) (sym fresh) (explained_first model run core none stands unscanned blameless);
        opened = ap (λ (leg : Leg). leg.events) (begins run none);
        since = ap (λ (leg : Leg). leg.events) (begins run none) ∙ sym (ap₂ (λ (n : ℕ) (es : List Event). drop n es) (ap (λ (leg : Leg). leg.number) (begins run none)) none);
        count = ap (λ (leg : Leg). leg.number + length leg.events) (begins run none) ∙ sym (ap length none);
      }

  -- ---- The opening

  at_opening : (leg : Leg) → leg.events ≡ [] → state_of model leg ≡ leg.opening
  at_opening leg none =
      ap (λ (es : List Event). state_of model (record leg { events = es })) none
      ∙ ap₂ (λ (n : ℕ) tasks. (let s : State = record { number = n; bounds = leg.bounds; from = leg.from; aim = leg.aim; tasks = tasks } in s)) (omega arith) (open_shown model leg.opening)

  -- the copy of an engine that stands at the opening of its leg
  pub opens_here : (run : Run) (core opening : Engine) → StandsIn model run (state_in core) → (leg_of model run).events ≡ [] → opening ≡ record core { blames = []; last_scan = no_scan } → state_in opening ≡ (leg_of model run).opening
  opens_here run core opening stands none same = ap state_in same ∙ (stands.there ∙ at_opening (leg_of model run) none)

  kept_opened : (run : Run) (known : Explained) (opening : Engine) → IsKept model run known None → opening ≡ record known.core { blames = []; last_scan = no_scan } → IsKept model run known (Some opening)
  kept_opened run known opening is same =
      record { explained = is.explained; opened = opens_here run known.core opening is.stands is.opened same; since = is.since; count = is.count }

  pub kept_where_none : (run : Run) (known : Explained) (opening : Option Engine) (copy : Engine) → is_some opening ≡ false → copy ≡ record known.core { blames = []; last_scan = no_scan } → IsKept model run known opening → IsKept model run known (Some copy)
  kept_where_none run known None copy none same is = kept_opened run known copy is same
  kept_where_none run known (Some opening) copy none same is = absurd (cc)

  -- ---- One event more

  next_is : (run : Run) (event : Event) → leg_of model (plus run event) ≡ next_leg model (leg_of model run) event
  next_is run event = leg_after-plus model (first_leg model run) run.events event

  next_opened : (leg : Leg) (event : Event) → opens model leg event ≡ true → next_leg model leg event ≡ opened model leg event
  unfolding next_leg
  next_opened leg event e = cond-true _ _ _ e

  next_other : (leg : Leg) (event : Event) → opens model leg event ≡ false → next_leg model leg event ≡ and_then leg event
  unfolding next_leg
  next_other leg event e = cond-false _ _ _ e

  module _ (run : Run) (event : Event) (old new : Explained) (given : Reply) (step : IsStep model (state_in old.core) event given (state_in new.core)) (further : IsExplained model run old → IsExplained model (plus run event) new) where
    says : StandsIn model run (state_in old.core) → is_opened event given.what ≡ opens model (leg_of model run) event
    says stands = ap (λ (r : Reply). is_opened event r.what) (step.replies run stands) ∙ opened_is model (leg_of model run) event

    kept_leg : (opening : Option Engine) → IsKept model run old opening → is_opened event given.what ≡ true → IsKept model (plus run event) new None
    kept_leg opening is turns =
        let next = next_is run event ∙ next_opened (leg_of model run) event (sym (says is.stands) ∙ turns) in
        let none : (leg_of model (plus run event)).events ≡ [] = ap (λ (leg : Leg). leg.events) next in
        record {
          explained = further is.explained;
          opened = none;
          since = none ∙ sym (ap (λ (leg : Leg). drop leg.number (run.events ++ event ∷ [])) next ∙ drop_of_length-le (run.events ++ event ∷ []) (omega (arith, is.count, length-append run.events (event ∷ []))));
          count = ap (λ (leg : Leg). leg.number + length leg.events) next ∙ omega (arith, is.count, length-append run.events (event ∷ []));
        }

    kept_on : (opening : Engine) → IsKept model run old (Some opening) → is_opened event given.what ≡ false → IsKept model (plus run event) new (Some opening)
    kept_on opening is stays =
        let next = next_is run event ∙ next_other (leg_of model run) event (sym (says is.stands) ∙ stays) in
        record {
          explained = further is.explained;
          opened = is.opened ∙ sym (ap (λ (leg : Leg). leg.opening) next);
          since = ap (λ (leg : Leg). leg.events) next
              ∙ (ap (λ (es : List Event). es ++ event ∷ []) is.since
              ∙ (sym (drop-append-le (leg_of model run).number run.events (event ∷ []) (omega (arith, is.count)))
              ∙ sym (ap (λ (leg : Leg). drop leg.number (run.events ++ event ∷ [])) next)));
          count = ap (λ (leg : Leg). leg.number + length leg.events) next ∙ omega (arith, is.count, length-append (leg_of model run).events (event ∷ []), length-append run.events (event ∷ []));
        }

    -- where the opening was kept, and is given up if the event opened a leg
    pub kept_after : (opening next : Option Engine) → IsSome opening → IsKept model run old opening → (is_opened event given.what ≡ true → next ≡ None) → (is_opened event given.what ≡ false → next ≡ opening) → IsKept model (plus run event) new next
    kept_after None next some is gone same = absurd (cc)
    kept_after (Some opening) next some is gone same = by (is_opened event given.what) refl
      where
        by : (b : Bool) → is_opened event given.what ≡ b → IsKept model (plus run event) new next
        by true e = subst (IsKept model (plus run event) new) (sym (gone e)) (kept_leg (Some opening) is e)
        by false e = subst (IsKept model (plus run event) new) (sym (same e)) (kept_on opening is e)

  -- ---- The leg

  -- the opening and the events since are the leg
  pub leg_is : (run : Run) (known : Explained) (kept : Option Engine) (opening : Engine) → IsKept model run known kept → state_in opening ≡ (leg_of model run).opening → leg_with opening (drop opening.number run.events) ≡ leg_of model run
  leg_is run known kept opening is there =
      ap₂ (λ (s : State) (es : List Event). (let leg : Leg = record { opening = s; events = es } in leg)) there
      (ap (λ (s : State). drop s.number run.events) there ∙ sym is.since)

  -- as many events came before it as its number says
  pub opening_within : (run : Run) (known : Explained) (kept : Option Engine) (opening : Engine) → IsKept model run known kept → state_in opening ≡ (leg_of model run).opening → opening.number ≤ length run.events
  opening_within run known kept opening is there = omega (arith, ap (λ (s : State). s.number) there, is.count)

  pub leg_here : (run : Run) (opening : Engine) → (leg_of model run).events ≡ [] → state_in opening ≡ (leg_of model run).opening → leg_with opening [] ≡ leg_of model run
  leg_here run opening none there =
      ap₂ (λ (s : State) (es : List Event). (let leg : Leg = record { opening = s; events = es } in leg)) there (sym none)
