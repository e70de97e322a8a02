use Rattle.lp_machine_laws.proofs.States.{states_are_sound}
use Rattle.lp_machine_laws.proofs.a_leg_may_be_cut.Goals as goal

pub returns : goal.returns
returns g c = states_are_sound g.M.Consistency.rules g.met.M.Consistency.lawful
