use Rattle.lp_worked_laws.proofs.CertRows.{certificates_compute}
use Rattle.lp_worked_laws.proofs.worked_certificates.Goals as goal

pub returns : goal.returns
returns c = certificates_compute
