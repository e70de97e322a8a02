-- What is made, as it stands after so many events: quiet events change nothing else of it.
use Rattle.std.proofs.Common.{◌≡◌, ◌+◌, ℕ, List, [], ◌∷◌, length, map, Option, Some, None, refl, sym, ap, subst, ◌∙◌}
use Rattle.std.specs.Option.{option_map}
use Rattle.lp_model.specs.Rules.{Rules}
use Rattle.lp_definitions.specs.Leg.{Leg, State}
use Rattle.lp_definitions.specs.Run.{Run, first_leg, leg_of}
use Rattle.lp_machine.specs.Steps.{StandsIn}
use Rattle.lp_machine.specs.Table.{Engine, state_in}
use Rattle.lp_definitions.specs.declared.cert.Claim.TheVariants.{Waiting}
use Rattle.lp_definitions.specs.Ends.{LegEnd, end_of}
use Rattle.lp_cert.specs.declared.open_leg.OpenLeg.{OpenLeg}
use Rattle.lp_definitions.specs.Certificates.{certs_by, completion, lines, waiting_groups}
use Rattle.lp_cert.specs.Ends.{Made, IsMadeOf, IsMadeWith, cert_upto, end_upto, ended_legs, made_upto, under_way}
use Rattle.lp_cert.specs.CommonHeads.{claim_of, upto_of}
use Rattle.lp_cert.specs.Invariant.{open_end}
use Rattle.lp_cert.specs.Waiters.{WaitingGroups, kept_cert, waiters_of}
use Rattle.lp_cert.proofs.Making.{cert_for, map_twice}

-- ---- Of the leg under way as it is kept

end_by : (upto noted : ℕ) (w : WaitingGroups) (leg : OpenLeg) (done : Option ℕ) → end_upto upto (open_end noted w (record leg { completed = done })) ≡ open_end upto w (record leg { completed = done })
end_by upto noted w leg None =
    ap (λ certs. let end : LegEnd = record { opened = leg.opened; target = leg.target; completed = None; certs = certs } in end)
    (map_twice (cert_upto upto) (kept_cert (claim_of None) leg.opened (upto_of noted None) w.reasons.lists w.reasons.scans) (waiters_of w))
end_by upto noted w leg (Some done) = refl

pub open_upto : (upto noted : ℕ) (w : WaitingGroups) (current : Option OpenLeg) → option_map (end_upto upto) (option_map (open_end noted w) current) ≡ option_map (open_end upto w) current
open_upto upto noted w None = refl
open_upto upto noted w (Some leg) = ap Some (end_by upto noted w leg leg.completed)

-- ---- Of what is made of a run

module _ (model : Rules) where
  abbrev end_with : Leg → Option ℕ → LegEnd
  end_with leg done = record { opened = leg.number; target = record { 0 = leg.target }; completed = option_map (λ k. leg.number + k) done; certs = certs_by model leg done }

  end_same : (upto : ℕ) (leg : Leg) → upto ≡ leg.number + length leg.events → (done : Option ℕ) → end_upto upto (end_with leg done) ≡ end_with leg done
  end_same upto leg last None =
      let groups = waiting_groups model leg (length leg.events) in
      ap (λ certs. let end : LegEnd = record { opened = leg.number; target = record { 0 = leg.target }; completed = None; certs = certs } in end)
      (map_twice (cert_upto upto) (cert_for Waiting leg.number (leg.number + length leg.events) (lines model leg (length leg.events))) groups
      ∙ ap (λ n. map (cert_for Waiting leg.number n (lines model leg (length leg.events))) groups) last)
  end_same upto leg last (Some k) = refl

  current_same : (upto : ℕ) (leg : Leg) → upto ≡ leg.number + length leg.events → (opened : List Leg) → option_map (end_upto upto) (option_map (end_of model) (under_way model opened leg)) ≡ option_map (end_of model) (under_way model opened leg)
  current_same upto leg last [] = refl
  current_same upto leg last (first ∷ rest) = ap Some (end_same upto leg last (completion model leg))

  same : (run : Run) (e : Engine) (made : Made) → StandsIn model run (state_in e) → IsMadeOf model run made → made_upto e.number made ≡ made
  same run e made stands is =
      let last : e.number ≡ (leg_of model run).number + length (leg_of model run).events = ap (λ (s : State). s.number) stands.there in
      ap (λ (current : Option LegEnd). record made { current = current })
      (ap (option_map (end_upto e.number)) is.current
      ∙ (current_same e.number (leg_of model run) last (ended_legs model (first_leg model run) run.events) ∙ sym is.current))

  -- what is made of a run stands as after the run's events
  pub upto_now : (run : Run) (e : Engine) (made : Made) → StandsIn model run (state_in e) → IsMadeWith model run e made → IsMadeWith model run e (made_upto e.number made)
  upto_now run e made stands is = subst (IsMadeWith model run e) (sym (same run e made stands is.of_run)) is
