use Rattle.std.proofs.Common.{rules}
use Rattle.lp_log.proofs.log.Log.apply.Goals as goal

pub returns-clause-journal : goal.returns-clause-journal
returns-clause-journal g c = search rules

pub returns-clause-reply : goal.returns-clause-reply
returns-clause-reply g c = search rules

pub returns-clause-full : goal.returns-clause-full
returns-clause-full g c = search rules

pub commit-requires : goal.commit-requires
commit-requires g c = search rules

pub returns-in_err-step-clause-full : goal.returns-in_err-step-clause-full
returns-in_err-step-clause-full g c = search rules

pub returns-in_err-ready-clause-full : goal.returns-in_err-ready-clause-full
returns-in_err-ready-clause-full g c = search rules
