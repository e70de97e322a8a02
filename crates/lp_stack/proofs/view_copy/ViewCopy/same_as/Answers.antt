use Rattle.std.proofs.Common.{rules}
use Rattle.lp_stack.proofs.view_copy.ViewCopy.same_as.Goals as goal

pub returns-then-eq-3 : goal.returns-then-eq-3
returns-then-eq-3 c = search rules
