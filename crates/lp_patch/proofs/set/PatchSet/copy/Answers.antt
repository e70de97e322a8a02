use Rattle.std.proofs.Common.{rules}
use Rattle.lp_patch.proofs.set.PatchSet.copy.Goals as goal

pub returns : goal.returns
returns c = search rules
