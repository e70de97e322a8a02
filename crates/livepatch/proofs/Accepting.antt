-- The certificates of the leg under way have no fault.
use Rattle.std.proofs.Common.{◌≡◌, ◌≤◌, ◌<◌, ◌+◌, ℕ, suc, Bool, true, false, List, [], ◌∷◌, length, All, Option, Some, None, IfSome, Result, Ok, Err, IfOk, cond, slice_index_or, refl, sym, ap, ◌∙◌, arith, subst}
use Rattle.std.specs.List.{find}
use Rattle.std.specs.Option.{option_map}
use Rattle.lp_model.specs.Rules.{Rules, IsLawful}
use Rattle.lp_definitions.specs.Leg.{Leg}
use Rattle.lp_definitions.specs.Run.{Run, AreInRange, first_leg, leg_of}
use Rattle.lp_definitions.specs.Sound.{IsSound}
use Rattle.lp_laws.proofs.WholeRun.{run_sound, start_sound}
use Rattle.lp_definitions.specs.declared.cert.Claim.TheVariants.{Floor}
use Rattle.lp_definitions.specs.declared.cert.Cert.{Cert}
use Rattle.lp_definitions.specs.Certificates.{cert, completion, certs_of}
use Rattle.lp_cert.specs.Ends.{Made, IsMadeOf, leg_under_way, waiting_in, floor_in}
use Rattle.lp_definitions.specs.Ends.{end_of}
use Rattle.lp_cert.proofs.Floors.{current_made, floor_made, is_leg_of}
use Rattle.lp_cert.proofs.Tellings.{complete_told}
use Rattle.lp_definitions.specs.Judgement.{cert_fault}
use Rattle.lp_laws.proofs.MadeOfRuns.{accepts_what_is_made}

-- ---- Options

pub ok_some : {X E : Type 0} (P : X → Type 0) (told : Option X) (r : Result (Option X) E) → IfOk r (λ found. found ≡ told) → IfSome told P → IfOk r (λ found. IfSome found P)
ok_some P told (Ok found) same holds = subst (λ o. IfSome o P) (sym same) holds
ok_some P told (Err e) same holds = tt

first : {X : Type 0} (P : X → Type 0) (x : X) (rest : Option X) (b : Bool) → P x → IfSome rest P → IfSome (cond b (Some x) rest) P
first P x rest true here later = here
first P x rest false here later = later

-- what is found is one of those of which this holds
found_holds : {X : Type 0} (P : X → Type 0) (test : X → Bool) (xs : List X) → ((k : ℕ) (d : X) → k < length xs → P (slice_index_or xs k d)) → IfSome (find test xs) P
found_holds P test [] all = tt
found_holds P test (x ∷ xs) all = first P x (find test xs) (test x) (all 0 x (omega arith)) (found_holds P test xs (λ k d below. all (suc k) d (omega (arith, below))))

if_holds : {X : Type 0} (P : X → Type 0) (b : Bool) (o : Option X) → IfSome o P → IfSome (cond b o None) P
if_holds P true o holds = holds
if_holds P false o holds = tt

-- ---- Certificates

module _ (model : Rules) (lawful : IsLawful model) (run : Run) (in_range : AreInRange run.bounds run.boots) (room : (leg_of model run).number + length (leg_of model run).events ≤ 1000000) where
  abbrev IsAccepted : Cert → Type 0
  IsAccepted made = cert_fault model (leg_of model run) made.claim made ≡ None

  sound : IsSound (leg_of model run).opening
  sound = run_sound model lawful (first_leg model run) run.events (start_sound model lawful run.bounds run.patches run.boots in_range)

  here : (leg : Leg) → leg_under_way model run ≡ Some leg → leg ≡ leg_of model run
  here leg now = is_leg_of model run leg now

  pub waiting_accepted : (group : ℕ) → IfSome (waiting_in (option_map (end_of model) (leg_under_way model run)) group) IsAccepted
  waiting_accepted group = by (leg_under_way model run) refl
    where
      by : (o : Option Leg) → leg_under_way model run ≡ o → IfSome (waiting_in (option_map (end_of model) o) group) IsAccepted
      by None none = tt
      by (Some leg) now =
          let all = subst (λ (l : Leg). All IsAccepted (certs_of model l)) (sym (here leg now)) ((accepts_what_is_made model lawful).at_the_end (leg_of model run) sound room) in
          if_holds IsAccepted _ _ (found_holds IsAccepted _ (certs_of model leg) all)

  pub floor_accepted : (made : Made) → IsMadeOf model run made → IfSome (floor_in made.current) IsAccepted
  floor_accepted made is = by (leg_under_way model run) refl
    where
      by_moment : (leg : Leg) → leg_under_way model run ≡ Some leg → (o : Option ℕ) → completion model leg ≡ o → IfSome (floor_in made.current) IsAccepted
      by_moment leg now None still =
          let floor = floor_made model run made is lawful in_range leg now still in
          let k = length leg.events in
          let at : leg ≡ leg_of model run = here leg now in
          let good : cert_fault model leg Floor (cert model leg Floor k floor.0) ≡ None = (accepts_what_is_made model lawful).accepted leg (subst (λ (l : Leg). IsSound l.opening) (sym at) sound) Floor k floor.0 (omega arith) (subst (λ (l : Leg). l.number + length l.events ≤ 1000000) (sym at) room) floor.1.waiting in
          subst (λ o. IfSome o IsAccepted) (sym floor.2) (subst (λ (l : Leg). cert_fault model l Floor (cert model leg Floor k floor.0) ≡ None) at good)
      by_moment leg now (Some k) done =
          subst (λ o. IfSome o IsAccepted) (sym (ap floor_in (current_made model run made is ∙ ap (option_map (end_of model)) now) ∙ (complete_told model leg k 0 done).1)) tt

      by : (o : Option Leg) → leg_under_way model run ≡ o → IfSome (floor_in made.current) IsAccepted
      by None none = subst (λ o. IfSome o IsAccepted) (sym (ap floor_in (current_made model run made is ∙ ap (option_map (end_of model)) none))) tt
      by (Some leg) now = by_moment leg now (completion model leg) refl
