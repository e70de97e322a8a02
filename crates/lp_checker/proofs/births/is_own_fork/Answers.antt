use Rattle.std.proofs.Common.{rules}
use Rattle.lp_checker.proofs.births.is_own_fork.Goals as goal

pub returns : goal.returns
returns g c = search rules
