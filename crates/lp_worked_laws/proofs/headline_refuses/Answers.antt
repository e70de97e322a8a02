use Rattle.lp_worked_laws.proofs.HeadlineRows.{headline_refuses}
use Rattle.lp_worked_laws.proofs.headline_refuses.Goals as goal

pub returns : goal.returns
returns c = headline_refuses
