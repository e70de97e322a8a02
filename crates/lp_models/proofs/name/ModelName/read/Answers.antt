use Rattle.std.proofs.Common.{rules}
use Rattle.lp_models.proofs.name.ModelName.read.Goals as goal

pub returns-in_default : goal.returns-in_default
returns-in_default c = search rules
