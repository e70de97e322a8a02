use Rattle.lp_laws.proofs.LawProofs.{has_one_first_check}
use Rattle.lp_laws.proofs.one_first_check.Goals as goal

pub returns : goal.returns
returns g c = has_one_first_check g.M.Consistency.rules g.met.M.Consistency.lawful
