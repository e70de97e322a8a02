use Rattle.std.proofs.Common.{arith}
use Rattle.lp_text.proofs.CertLines.{cert_step}
use Rattle.lp_text.proofs.check_input.read_claim.Goals as goal

pub returns : goal.returns
returns c = grind (arith, cert_step)

pub returns-in_err-reasons : goal.returns-in_err-reasons
returns-in_err-reasons c = grind (arith, cert_step)

pub returns-in-Err : goal.returns-in-Err
returns-in-Err c = grind (arith, cert_step)
