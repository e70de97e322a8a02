use Rattle.lp_laws.proofs.LawProofs.{trusts_chains}
use Rattle.lp_laws.proofs.chains_are_sound.Goals as goal

pub returns : goal.returns
returns g c = trusts_chains g.M.Consistency.rules g.met.M.Consistency.lawful
