use Rattle.std.proofs.Common.{sym, ◌∙◌}
use Rattle.lp_cert.specs.Waiters.{no_head}
use Rattle.lp_numbers.proofs.Tables.{blank_there}
use Rattle.lp_cert.proofs.reasons.Reasons.head.Goals as goal

pub returns-in-None : goal.returns-in-None
returns-in-None c = rw (← c.self.view_is) (sym (blank_there c.self.inside.heads c.args.group.0 (sym c.get.ensures.value ∙ c.in-None.is) no_head))
