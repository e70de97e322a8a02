use Rattle.lp_laws.proofs.LawProofs.{waits_for_a_reason}
use Rattle.lp_laws.proofs.no_wait_without_a_reason.Goals as goal

pub returns : goal.returns
returns g c = waits_for_a_reason g.M.Consistency.rules g.met.M.Consistency.lawful
