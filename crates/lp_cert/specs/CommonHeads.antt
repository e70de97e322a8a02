-- What the certificates of a leg have in common.
use Rattle.std.specs.Prelude.{ℕ, ◌-◌, Option, Some, None}
use Rattle.lp_definitions.specs.declared.cert.Claim.{Claim}
use Rattle.lp_definitions.specs.declared.cert.Claim.TheVariants.{Waiting, Floor}
use Rattle.lp_cert.specs.declared.cert_head.CommonHead.{CommonHead}
use Rattle.lp_cert.specs.declared.open_leg.OpenLeg.{OpenLeg}

abbrev pub claim_of : Option ℕ → Claim
claim_of None = Waiting
claim_of (Some at) = Floor

-- up to the last event noted, or the last before the leg was complete
abbrev pub upto_of : ℕ → Option ℕ → ℕ
upto_of noted None = noted
upto_of noted (Some at) = at - 1

-- what the certificates have in common after so many events
abbrev pub head_after : ℕ → OpenLeg → CommonHead
head_after noted leg = record { claim = claim_of leg.completed; leg = leg.opened; upto = upto_of noted leg.completed }
