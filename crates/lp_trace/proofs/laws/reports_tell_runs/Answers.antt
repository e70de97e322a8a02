use Rattle.lp_trace.proofs.RunsFit.{reports_tell}
use Rattle.lp_trace.proofs.laws.reports_tell_runs.Goals as goal

pub returns : goal.returns
returns g c = reports_tell g.A.Consistency.rules g.B.Consistency.rules g.met.A.Consistency.lawful g.met.B.Consistency.lawful
