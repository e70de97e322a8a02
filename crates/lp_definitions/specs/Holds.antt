-- What a certificate claims of a leg.
use Rattle.std.specs.Prelude.{◌≡◌, ℕ, ◌+◌, ◌≤◌, length, IsTrue, IsFalse}
use Rattle.lp_model.specs.Rules.{Rules}
use Rattle.lp_definitions.specs.Leg.{Leg}
use Rattle.lp_definitions.specs.Schedule.{Schedule, waits, complete, IsLegal}
use Rattle.lp_definitions.specs.declared.cert.Cert.{Cert}

-- what a certificate claims of a leg. Event `upto` of the run is event k of the leg
pub record Holds (model : Rules) (leg : Leg) (cert : Cert) : Type 0 where
  -- the leg has come to event `upto`
  pub begun : leg.number ≤ cert.upto
  pub there : cert.upto ≤ leg.number + length leg.events
  -- whatever legal schedule there is, the group waits after it
  pub waits :
      (schedule : Schedule) → IsLegal model leg schedule →
      (k : ℕ) → leg.number + k ≡ cert.upto → IsTrue (waits model leg schedule k cert.group.0)
  -- and none completes the leg by then
  pub floor :
      (schedule : Schedule) → IsLegal model leg schedule →
      (k : ℕ) → leg.number + k ≤ cert.upto → IsFalse (complete model leg schedule k)
