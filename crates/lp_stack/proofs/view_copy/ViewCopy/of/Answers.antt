use Rattle.std.proofs.Common.{rules}
use Rattle.lp_stack.proofs.view_copy.ViewCopy.of.Goals as goal

pub returns : goal.returns
returns c = search rules
