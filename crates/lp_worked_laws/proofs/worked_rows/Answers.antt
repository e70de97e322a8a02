use Rattle.lp_worked_laws.proofs.Rows.{rows_compute}
use Rattle.lp_worked_laws.proofs.worked_rows.Goals as goal

pub returns : goal.returns
returns c = rows_compute
