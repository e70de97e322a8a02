use Rattle.lp_laws.proofs.Headline.{headline_holds}
use Rattle.lp_laws.proofs.headline_holds.Goals as goal

pub returns : goal.returns
returns g c = headline_holds g.M.Consistency.rules g.met.M.Consistency.lawful
