use Rattle.lp_laws.proofs.LawProofs.{permissive_never_loses}
use Rattle.lp_laws.proofs.permissive_models_never_lose.Goals as goal

pub returns : goal.returns
returns g c = permissive_never_loses g.A.Consistency.rules g.B.Consistency.rules g.met.A.Consistency.lawful g.met.B.Consistency.lawful
