use Rattle.std.proofs.Common.{sym, ◌∙◌}
use Rattle.lp_checker.proofs.marks.at_begin.Goals as goal

pub returns-then-blamed-clause-marked : goal.returns-then-blamed-clause-marked
returns-then-blamed-clause-marked g c = rw c.in-Hold.is (sym (c.in_ok-blamed-in-Hold.ensures.blamed c.in-Hold.group) ∙ c.if-blamed.true)
