use Rattle.lp_laws.proofs.CertLawProofs.{trusts_certificates}
use Rattle.lp_laws.proofs.accepted_certificates_hold.Goals as goal

pub returns : goal.returns
returns g c = trusts_certificates g.M.Consistency.rules g.met.M.Consistency.lawful
