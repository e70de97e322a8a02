-- Certificates without lines.
use Rattle.std.specs.Prelude.{ℕ, List, [], map}
use Rattle.lp_stack.specs.declared.number.GroupId.{GroupId}
use Rattle.lp_definitions.specs.declared.cert.Claim.{Claim}
use Rattle.lp_definitions.specs.declared.cert.Cert.{Cert}
use Rattle.lp_cert.specs.declared.cert_head.CommonHead.{CommonHead}

abbrev pub bare_cert : Claim → (leg upto : ℕ) → GroupId → Cert
bare_cert claim leg upto group = record { claim = claim; leg = leg; group = group; upto = upto; lines = [] }

-- those of groups, with what they have in common
abbrev pub bare_certs : CommonHead → List GroupId → List Cert
bare_certs head groups = map (bare_cert head.claim head.leg head.upto) groups
