use Rattle.lp_worked_laws.proofs.FaultRows.{faults_compute}
use Rattle.lp_worked_laws.proofs.worked_faults.Goals as goal

pub returns : goal.returns
returns c = faults_compute
