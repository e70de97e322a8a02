use Rattle.std.proofs.Common.{rules}
use Rattle.lp_model.proofs.verdict.Verdict.of.Goals as goal

pub returns-clause-blame : goal.returns-clause-blame
returns-clause-blame g c = search rules
