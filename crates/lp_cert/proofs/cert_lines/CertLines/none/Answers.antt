use Rattle.std.proofs.Common.{refl}
use Rattle.lp_cert.specs.Heads.{lines_of}
use Rattle.lp_cert.proofs.cert_lines.CertLines.none.Goals as goal

pub returns : goal.returns
unfolding lines_of
returns c = refl
