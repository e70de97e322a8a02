use Rattle.std.proofs.Common.{rules}
use Rattle.lp_patch.proofs.aim.Aim.stale.Goals as goal

pub returns : goal.returns
returns c = search rules
