use Rattle.lp_threads.proofs.report.text_of.Goals as goal

pub returns : goal.returns
returns c = c.format.ensures.ok
