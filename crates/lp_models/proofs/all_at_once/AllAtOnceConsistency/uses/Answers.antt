use Rattle.std.proofs.Common.{rules}
use Rattle.lp_models.proofs.all_at_once.AllAtOnceConsistency.uses.Goals as goal

pub returns : goal.returns
returns c = search rules
