-- What an accepted certificate is worth, and which are accepted.
use Rattle.std.specs.Prelude.{◌≡◌, ℕ, ◌+◌, ◌≤◌, length, All, None, IsTrue}
use Rattle.lp_model.specs.Rules.{Rules}
use Rattle.lp_definitions.specs.Leg.{Leg}
use Rattle.lp_definitions.specs.Schedule.{waits, first_check}
use Rattle.lp_definitions.specs.Run.{Run, AreInRange, first_leg}
use Rattle.lp_definitions.specs.Sound.{IsSound}
use Rattle.lp_definitions.specs.declared.cert.Cert.{Cert}
use Rattle.lp_definitions.specs.declared.cert.Claim.{Claim}
use Rattle.lp_definitions.specs.Certificates.{cert, certs_of, opened_legs}
use Rattle.lp_definitions.specs.Holds.{Holds}
use Rattle.lp_definitions.specs.Judgement.{cert_fault}

-- where a certificate has no fault, what it claims holds of each leg that opens soundly, whoever made it
pub record TrustsCertificates (model : Rules) : Type 0 where
  pub holds :
      (leg : Leg) → IsSound leg.opening →
      (claim : Claim) (cert : Cert) → cert_fault model leg claim cert ≡ None → Holds model leg cert

-- each certificate that is made of a leg that opens soundly has no fault, as long as its events don't go past the
-- 1,000,000 that a run can have
pub record AcceptsWhatIsMade (model : Rules) : Type 0 where
  -- whatever it is to claim, for each group that waits after the first k events
  pub accepted :
      (leg : Leg) → IsSound leg.opening → (claim : Claim) (k group : ℕ) →
      k ≤ length leg.events → leg.number + k ≤ 1000000 → IsTrue (waits model leg (first_check model leg) k group) →
      cert_fault model leg claim (cert model leg claim k group) ≡ None
  -- so have none of those of a leg's end, each for its own claim
  pub at_the_end :
      (leg : Leg) → IsSound leg.opening → leg.number + length leg.events ≤ 1000000 →
      All (λ made. cert_fault model leg made.claim made ≡ None) (certs_of model leg)
  -- nor those of any leg that a control event opens in a run
  pub of_runs :
      (run : Run) → AreInRange run.bounds run.boots → length run.events ≤ 1000000 →
      All (λ leg. All (λ made. cert_fault model leg made.claim made ≡ None) (certs_of model leg)) (opened_legs model (first_leg model run) run.events)
