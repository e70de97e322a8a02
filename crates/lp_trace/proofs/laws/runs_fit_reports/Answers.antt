use Rattle.lp_trace.proofs.RunsFit.{runs_fit}
use Rattle.lp_trace.proofs.laws.runs_fit_reports.Goals as goal

pub returns : goal.returns
returns g c = runs_fit g.M.Consistency.rules g.met.M.Consistency.lawful
