use Rattle.lp_laws.proofs.LawProofs.{mixes_no_stay}
use Rattle.lp_laws.proofs.no_stay_is_mixed.Goals as goal

pub returns : goal.returns
returns g c = mixes_no_stay g.M.Consistency.rules g.met.M.Consistency.lawful
