use Rattle.std.proofs.Common.{rules}
use Rattle.lp_log.proofs.journal.Journal.audit.Goals as goal

pub returns-in-None-clause-cause : goal.returns-in-None-clause-cause
returns-in-None-clause-cause c = search rules
