use Rattle.lp_laws.proofs.LawProofs.{opens_soundly}
use Rattle.lp_laws.proofs.legs_open_soundly.Goals as goal

pub returns : goal.returns
returns g c = opens_soundly g.M.Consistency.rules g.met.M.Consistency.lawful
