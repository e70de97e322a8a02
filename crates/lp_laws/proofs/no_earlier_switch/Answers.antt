use Rattle.lp_laws.proofs.LawProofs.{switches_none_later}
use Rattle.lp_laws.proofs.no_earlier_switch.Goals as goal

pub returns : goal.returns
returns g c = switches_none_later g.M.Consistency.rules g.met.M.Consistency.lawful
