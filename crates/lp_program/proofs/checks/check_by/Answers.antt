-- What a check by a model says of the model's name.
use Rattle.lp_program.proofs.checks.check_by.Goals as goal

pub returns-clause-prefix : goal.returns-clause-prefix
returns-clause-prefix g c = rw (← c.requires) c.check.ensures.prefix

pub returns-clause-answer : goal.returns-clause-answer
returns-clause-answer g c = rw (← c.requires) c.check.ensures.answer

pub returns-clause-sound : goal.returns-clause-sound
returns-clause-sound g c = rw (← c.requires) c.check.ensures.sound
