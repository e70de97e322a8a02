use Rattle.std.proofs.Common.{rules}
use Rattle.lp_patch.proofs.stack.PatchStack.new.Goals as goal

pub returns-in_err-versions-clause-refused : goal.returns-in_err-versions-clause-refused
returns-in_err-versions-clause-refused c = search rules

pub invariant_of-result : goal.invariant_of-result
invariant_of-result c = search rules

pub returns-clause-refused : goal.returns-clause-refused
returns-clause-refused c = search rules
