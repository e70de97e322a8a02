use Rattle.lp_transition.proofs.Readers.{states_tell}
use Rattle.lp_transition.proofs.laws.states_tell.Goals as goal

pub returns : goal.returns
returns g c = states_tell g.M.Consistency.rules g.met.M.Consistency.lawful
