use Rattle.std.proofs.Common.{None, sym, ◌∙◌}
use Rattle.lp_numbers.proofs.Tables.{blank_there, value_there}
use Rattle.lp_transition.proofs.engine.blames.blame_of.Goals as goal

pub returns-in-Some-clause-value : goal.returns-in-Some-clause-value
returns-in-Some-clause-value c = sym (value_there c.args.of_group.now c.args.group.0 c.in-Some.blame (sym c.get.ensures.value ∙ c.in-Some.is) None)

pub returns-in-None-clause-value : goal.returns-in-None-clause-value
returns-in-None-clause-value c = sym (blank_there c.args.of_group.now c.args.group.0 (sym c.get.ensures.value ∙ c.in-None.is) None)
