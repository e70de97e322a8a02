use Rattle.lp_compare.proofs.runs.compared.Goals as goal

pub returns : goal.returns
returns c = rw c.in_ok-found.ensures.comparison at c.text_of.ensures
