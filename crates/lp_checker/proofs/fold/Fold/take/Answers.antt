use Rattle.lp_checker.proofs.fold.Fold.take.Goals as goal

pub returns-in-Die-clause-tasks : goal.returns-in-Die-clause-tasks
returns-in-Die-clause-tasks g c = rw c.in-Die.is c.end.ensures.tasks
