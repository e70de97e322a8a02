use Rattle.lp_machine_laws.proofs.Runs.{steps_as_defined}
use Rattle.lp_machine_laws.proofs.the_machine_steps_as_defined.Goals as goal

pub returns : goal.returns
returns g c = steps_as_defined g.M.Consistency.rules g.met.M.Consistency.lawful
