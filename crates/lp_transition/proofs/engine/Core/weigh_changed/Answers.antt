use Rattle.lp_transition.proofs.engine.Core.weigh_changed.Goals as goal

pub returns-in-Walk-clause-reply : goal.returns-in-Walk-clause-reply
returns-in-Walk-clause-reply g c = rw c.in-Walk.is c.weigh_changed_scan.ensures.reply

pub returns-in-Stop-clause-reply : goal.returns-in-Stop-clause-reply
returns-in-Stop-clause-reply g c = rw c.in-Stop.is c.weigh_changed_scan-in-Stop.ensures.reply
