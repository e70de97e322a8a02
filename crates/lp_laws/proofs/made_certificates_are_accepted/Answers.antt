use Rattle.lp_laws.proofs.MadeOfRuns.{accepts_what_is_made}
use Rattle.lp_laws.proofs.made_certificates_are_accepted.Goals as goal

pub returns : goal.returns
returns g c = accepts_what_is_made g.M.Consistency.rules g.met.M.Consistency.lawful
