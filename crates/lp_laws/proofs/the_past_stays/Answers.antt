use Rattle.lp_laws.proofs.LawProofs.{keeps_the_past}
use Rattle.lp_laws.proofs.the_past_stays.Goals as goal

pub returns : goal.returns
returns g c = keeps_the_past g.M.Consistency.rules
