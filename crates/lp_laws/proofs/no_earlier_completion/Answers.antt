use Rattle.lp_laws.proofs.LawProofs.{completes_none_later}
use Rattle.lp_laws.proofs.no_earlier_completion.Goals as goal

pub returns : goal.returns
returns g c = completes_none_later g.M.Consistency.rules g.met.M.Consistency.lawful
