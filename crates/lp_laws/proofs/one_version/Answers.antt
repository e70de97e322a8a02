use Rattle.lp_laws.proofs.LawProofs.{keeps_one_version}
use Rattle.lp_laws.proofs.one_version.Goals as goal

pub returns : goal.returns
returns g c = keeps_one_version g.M.Consistency.rules g.met.M.Consistency.lawful
