use Rattle.std.proofs.Common.{rules}
use Rattle.lp_text.proofs.write.put_fork.Goals as goal

pub returns : goal.returns
returns g c = search rules
