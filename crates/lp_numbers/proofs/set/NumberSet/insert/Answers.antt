use Rattle.lp_numbers.proofs.set.NumberSet.insert.Goals as goal

pub returns-clause-after : goal.returns-clause-after
returns-clause-after c = c.put.ensures.after
