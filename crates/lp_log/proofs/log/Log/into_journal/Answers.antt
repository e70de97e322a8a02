use Rattle.std.proofs.Common.{subst, sym}
use Rattle.lp_log.specs.Journals.{Written, IsReplayed}
use Rattle.lp_log.proofs.log.Log.into_journal.Goals as goal

pub returns-clause-replayed : goal.returns-clause-replayed
returns-clause-replayed g c = subst (λ (j : Written). IsReplayed g.M.Consistency.rules j) (sym c.new.ensures) c.self.invariant.replayed
