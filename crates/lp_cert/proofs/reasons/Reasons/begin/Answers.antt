use Rattle.std.proofs.Common.{sym, ◌∙◌, arith}
use Rattle.std.proofs.lemmas.Grind.{common_steps}
use Rattle.lp_cert.specs.Waiters.{no_head}
use Rattle.lp_numbers.proofs.Tables.{blank_there}
use Rattle.lp_cert.proofs.reasons.Reasons.begin.Goals as goal

pub returns-in-Some-clause-others : goal.returns-in-Some-clause-others
returns-in-Some-clause-others c = grind (arith, common_steps)

pub returns-in-None-clause-head : goal.returns-in-None-clause-head
returns-in-None-clause-head c = rw (← c.self.view_is) (blank_there c.self.inside.heads c.args.group.0 (sym c.get.ensures.value ∙ c.in-None.is) no_head)
