use Rattle.std.proofs.Common.{rules}
use Rattle.lp_transition.proofs.engine.Core.changed_since.Goals as goal

pub returns-clause-last : goal.returns-clause-last
returns-clause-last g c = search rules

pub returns-clause-others : goal.returns-clause-others
returns-clause-others g c = search rules
