use Rattle.lp_log.proofs.log.Log.command.Goals as goal

pub returns-in-Ok-clause-yours : goal.returns-in-Ok-clause-yours
returns-in-Ok-clause-yours g c = c.in-Ok.ensures.yours

pub returns-in-Ok-clause-left : goal.returns-in-Ok-clause-left
returns-in-Ok-clause-left g c = c.in-Ok.ensures.left

pub returns-in-Ok-clause-replayed : goal.returns-in-Ok-clause-replayed
returns-in-Ok-clause-replayed g c = c.in-Ok.ensures.replayed

pub returns-in-Err-clause-replayed : goal.returns-in-Err-clause-replayed
returns-in-Err-clause-replayed g c = c.in-Err.ensures.replayed

pub returns-in-Err-clause-turned : goal.returns-in-Err-clause-turned
returns-in-Err-clause-turned g c = c.in-Err.ensures.turned

pub returns-in-Err-clause-unchanged : goal.returns-in-Err-clause-unchanged
returns-in-Err-clause-unchanged g c = c.in-Err.ensures.same

pub returns-in-Err-clause-not_yours : goal.returns-in-Err-clause-not_yours
returns-in-Err-clause-not_yours g c = c.in-Err.ensures.not_yours

pub returns-in-Err-clause-full : goal.returns-in-Err-clause-full
returns-in-Err-clause-full g c = c.in-Err.ensures.full
