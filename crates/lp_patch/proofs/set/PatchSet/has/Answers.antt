use Rattle.std.proofs.Common.{rules}
use Rattle.lp_patch.proofs.set.PatchSet.has.Goals as goal

pub returns : goal.returns
returns c = search rules
