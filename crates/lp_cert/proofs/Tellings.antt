-- What a maker holds of a run, and what it tells.
use Rattle.std.proofs.Common.{◌≡◌, ℕ, suc, ◌+◌, ◌≤◌, List, [], ◌∷◌, ◌++◌, length, map, take, drop, Option, Some, None, option_to_list, slice_get, if◌then◌else◌, refl, sym, ap, ap₂, ◌∙◌, arith, append_assoc}
use Rattle.std.proofs.lemmas.List.{map-append}
use Rattle.std.specs.Option.{option_map}
use Rattle.lp_model.specs.Rules.{Rules}
use Rattle.lp_definitions.specs.declared.event.Event.{Event}
use Rattle.lp_definitions.specs.Leg.{Leg}
use Rattle.lp_definitions.specs.Run.{Run, first_leg, leg_of, opens, next_leg, leg_after}
use Rattle.lp_definitions.specs.Schedule.{waits, first_check}
use Rattle.lp_machine.specs.Machine.{state_of}
use Rattle.lp_machine.specs.Table.{Engine}
use Rattle.lp_transition.specs.Blames.{blame_of}
use Rattle.lp_cert.proofs.Held.{none_held}
use Rattle.lp_definitions.specs.declared.cert.Claim.TheVariants.{Waiting, Floor}
use Rattle.lp_definitions.specs.declared.cert.Cert.{Cert}
use Rattle.lp_definitions.specs.Ends.{LegEnd, end_of}
use Rattle.lp_definitions.specs.Certificates.{cert, completion, certs_by, lines, waiting_groups, floor_certs, legs, opened_legs}
use Rattle.lp_cert.specs.Ends.{Made, IsFresh, IsMadeOf, IsMadeWith, ended_legs, under_way, waiting_in, floor_in}
use Rattle.lp_cert.proofs.Asked.{find_own}
use Rattle.lp_cert.proofs.UnchangedSteps.{none_unchanged}

module _ (model : Rules) where
  pub begins : (run : Run) (made : Made) → run.events ≡ [] → IsFresh made → IsMadeOf model run made
  unfolding ended_legs
  begins run made none fresh = record {
    ended = fresh.ended ∙ sym (ap (λ events. map (end_of model) (drop 1 (ended_legs model (first_leg model run) events))) none);
    current = fresh.current ∙ sym (ap (λ events. option_map (end_of model) (under_way model (ended_legs model (first_leg model run) events) (leg_after model (first_leg model run) events))) none);
  }

  -- and an engine that begins knows nothing of a scan
  pub begun_with : (run : Run) (e : Engine) (made : Made) → run.events ≡ [] → e.last_scan.kind ≡ None → ((group : ℕ) → blame_of e group ≡ None) → IsFresh made → IsMadeWith model run e made
  unfolding lines leg_after
  begun_with run e made none unscanned blameless fresh = record {
    of_run = begins run made none fresh;
    unchanged = none_unchanged model (state_of model (leg_of model run)) (lines model (leg_of model run) (length (leg_of model run).events)) e.last_scan unscanned;
    held =
        none_held (state_of model (leg_of model run)) (lines model (leg_of model run) (length (leg_of model run).events)) e
        (λ g. ap (λ events. lines model (leg_after model (first_leg model run) events) (length (leg_after model (first_leg model run) events).events) g) none) (λ t x live. blameless x.group);
  }

  -- the legs are those that ended, and the last
  pub legs-split : (leg : Leg) (events : List Event) → legs model leg events ≡ ended_legs model leg events ++ leg_after model leg events ∷ []
  unfolding legs ended_legs leg_after
  legs-split leg [] = refl
  legs-split leg (event ∷ events) =
      ap (λ rest. (if opens model leg event then leg ∷ [] else []) ++ rest) (legs-split (next_leg model leg event) events)
      ∙ sym (append_assoc (if opens model leg event then leg ∷ [] else []) (ended_legs model (next_leg model leg event) events) (leg_after model (next_leg model leg event) events ∷ []))

  joined : (before : List Leg) (leg : Leg) → map (end_of model) (drop 1 before) ++ option_to_list (option_map (end_of model) (under_way model before leg)) ≡ map (end_of model) (drop 1 (before ++ leg ∷ []))
  joined [] leg = refl
  joined (first ∷ rest) leg = sym (map-append (end_of model) rest (leg ∷ []))

  pub legs_made : (run : Run) (made : Made) → IsMadeOf model run made → made.ended ++ option_to_list made.current ≡ map (end_of model) (opened_legs model (first_leg model run) run.events)
  legs_made run made is =
      ap₂ (λ (es : List LegEnd) (o : Option LegEnd). es ++ option_to_list o) is.ended is.current
      ∙ (joined (ended_legs model (first_leg model run) run.events) (leg_of model run)
      ∙ ap (λ ls. map (end_of model) (drop 1 ls)) (sym (legs-split (first_leg model run) run.events)))

  -- a leg's end by its moment
  abbrev end_by : Leg → Option ℕ → LegEnd
  end_by leg o = record { opened = leg.number; target = record { 0 = leg.target }; completed = option_map (λ k. leg.number + k) o; certs = certs_by model leg o }

  pub waiting_told : (leg : Leg) (group : ℕ) → completion model leg ≡ None → group ≤ leg.bounds.tasks
      → waiting_in (Some (end_of model leg)) group ≡ (if waits model leg (first_check model leg) (length leg.events) group then Some (cert model leg Waiting (length leg.events) group) else None)
  waiting_told leg group open_still within =
      ap (λ (o : Option ℕ). waiting_in (Some (end_by leg o)) group) open_still
      ∙ find_own (cert model leg Waiting (length leg.events)) (λ k. refl) (waits model leg (first_check model leg) (length leg.events)) group 0 (suc leg.bounds.tasks) (omega arith) (omega arith)

  floor_first : (f g : ℕ → Cert) → ((k : ℕ) → (let one : Cert = f k in record one { claim = Floor }) ≡ g k) → (ks : List ℕ) → option_map (λ (c : Cert). record c { claim = Floor }) (slice_get (map f ks) 0) ≡ slice_get (map g (take 1 ks)) 0
  floor_first f g same [] = refl
  floor_first f g same (k ∷ ks) = ap {A = Cert} {B = Option Cert} Some (same k)

  pub floor_told : (leg : Leg) → completion model leg ≡ None → floor_in (Some (end_of model leg)) ≡ slice_get (floor_certs model leg (length leg.events)) 0
  floor_told leg open_still =
      ap (λ (o : Option ℕ). floor_in (Some (end_by leg o))) open_still
      ∙ floor_first (cert model leg Waiting (length leg.events)) (cert model leg Floor (length leg.events)) (λ k. refl) (waiting_groups model leg (length leg.events))

  pub complete_told : (leg : Leg) (k group : ℕ) → completion model leg ≡ Some k → (waiting_in (Some (end_of model leg)) group ≡ None) × (floor_in (Some (end_of model leg)) ≡ None)
  complete_told leg k group done =
      (ap (λ (o : Option ℕ). waiting_in (Some (end_by leg o)) group) done, ap (λ (o : Option ℕ). floor_in (Some (end_by leg o))) done)
