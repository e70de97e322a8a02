use Rattle.std.proofs.Common.{rules}
use Rattle.lp_scan.proofs.judged.Judged.goes_to.Goals as goal

pub returns-then-eq : goal.returns-then-eq
returns-then-eq g c = search rules
