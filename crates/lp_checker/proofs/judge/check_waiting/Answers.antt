use Rattle.lp_checker.proofs.judge.check_waiting.Goals as goal

pub returns-clause-answer : goal.returns-clause-answer
returns-clause-answer g c = c.judge.ensures.answer

pub returns-clause-early : goal.returns-clause-early
returns-clause-early g c = c.judge.ensures.early
