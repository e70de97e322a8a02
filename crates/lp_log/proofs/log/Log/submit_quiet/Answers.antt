use Rattle.std.proofs.Common.{subst}
use Rattle.lp_log.specs.Journals.{IsReplayed}
use Rattle.lp_log.specs.Logs.{Logged}
use Rattle.lp_log.proofs.log.Log.submit_quiet.Goals as goal

pub returns-in-Ok-clause-replayed : goal.returns-in-Ok-clause-replayed
returns-in-Ok-clause-replayed g c = subst (λ (log : Logged). IsReplayed g.M.Consistency.rules log.journal) c.self.view_is c.self.invariant.replayed

pub returns-in-Err-clause-replayed : goal.returns-in-Err-clause-replayed
returns-in-Err-clause-replayed g c = subst (λ (log : Logged). IsReplayed g.M.Consistency.rules log.journal) c.self.view_is c.self.invariant.replayed
