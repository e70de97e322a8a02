use Rattle.lp_numbers.proofs.ThreeLevels.{three_level-end}
use Rattle.lp_numbers.proofs.levels.clear.Goals as goal

pub returns-clause-blank : goal.returns-clause-blank
returns-clause-blank c = three_level-end c.loop-rest.words c.loop-rest.summary c.loop-rest.rest c.loop-rest.invariant c.loop-rest-test.false
