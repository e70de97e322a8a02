-- What is made of a whole run is accepted.
use Rattle.std.proofs.Common.{◌≡◌, ℕ, suc, ◌+◌, ◌≤◌, List, [], ◌∷◌, ◌++◌, length, All, None, if◌then◌else◌, refl, arith}
use Rattle.std.proofs.lemmas.Bool.{cond_both}
use Rattle.std.proofs.lemmas.List.{length-append}
use Rattle.std.proofs.lemmas.List.Elements.{All-nil, All-cons, All-append, All-drop}
use Rattle.lp_model.specs.Rules.{Rules, IsLawful}
use Rattle.lp_definitions.specs.declared.event.Event.{Event}
use Rattle.lp_definitions.specs.Leg.{Leg}
use Rattle.lp_definitions.specs.Run.{Run, AreInRange, and_then, first_leg, next_leg, opened, opens}
use Rattle.lp_definitions.specs.Sound.{IsSound}
use Rattle.lp_laws.proofs.WholeRun.{next_sound, start_sound}
use Rattle.lp_definitions.specs.Certificates.{completion, certs_of, legs, opened_legs}
use Rattle.lp_laws.specs.CertLaws.{AcceptsWhatIsMade}
use Rattle.lp_definitions.specs.Judgement.{cert_fault}
use Rattle.lp_laws.proofs.MadeFaultless.{accepted, at_end}

module _ (model : Rules) (lawful : IsLawful model) where
  -- the certificates of the leg's end have no fault
  abbrev IsAccepted : Leg → Type 0
  IsAccepted leg = All (λ made. cert_fault model leg made.claim made ≡ None) (certs_of model leg)

  -- how many events there were up to the end of the leg
  abbrev so_far : Leg → ℕ
  so_far leg = leg.number + length leg.events

  one_more : (leg : Leg) (event : Event) → so_far (next_leg model leg event) ≡ suc (so_far leg)
  unfolding next_leg
  one_more leg event =
      cond_both (opens model leg event) (opened model leg event) (and_then leg event) (λ l. so_far l ≡ suc (so_far leg)) (λ e. omega arith) (λ e. let n : length (leg.events ++ event ∷ []) ≡ length leg.events + 1 = length-append leg.events (event ∷ []) in omega (arith, n))

  this_leg : (leg : Leg) → IsSound leg.opening → so_far leg ≤ 1000000 → IsAccepted leg
  this_leg leg sound few = at_end model leg lawful sound (completion model leg) refl few

  all_legs : (leg : Leg) (events : List Event) → IsSound leg.opening → so_far leg + length events ≤ 1000000 → All IsAccepted (legs model leg events)
  unfolding legs
  all_legs leg [] sound few = All-cons IsAccepted leg [] (this_leg leg sound (omega (arith, few))) (All-nil IsAccepted)
  all_legs leg (event ∷ events) sound few =
      let more = one_more leg event in
      All-append IsAccepted (if opens model leg event then leg ∷ [] else []) (legs model (next_leg model leg event) events)
      (cond_both (opens model leg event) (leg ∷ []) [] (All IsAccepted) (λ e. All-cons IsAccepted leg [] (this_leg leg sound (omega (arith, few))) (All-nil IsAccepted)) (λ e. All-nil IsAccepted))
      (all_legs (next_leg model leg event) events (next_sound model lawful leg event sound) (omega (arith, few, more)))

  of_run : (run : Run) → AreInRange run.bounds run.boots → length run.events ≤ 1000000 → All IsAccepted (opened_legs model (first_leg model run) run.events)
  of_run run in_range few =
      All-drop IsAccepted 1 (legs model (first_leg model run) run.events) (all_legs (first_leg model run) run.events (start_sound model lawful run.bounds run.patches run.boots in_range) (omega (arith, few)))

pub accepts_what_is_made : (model : Rules) → IsLawful model → AcceptsWhatIsMade model
accepts_what_is_made model lawful =
    record {
      accepted = λ leg sound claim k group within few waiting. accepted model leg lawful sound claim k group within few waiting;
      at_the_end = λ leg sound few. this_leg model lawful leg sound few;
      of_runs = λ run in_range few. of_run model lawful run in_range few;
    }
