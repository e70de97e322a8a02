use Rattle.lp_numbers.proofs.ThreeLevels.{named-end}
use Rattle.lp_numbers.proofs.levels.clear_named.Goals as goal

pub returns-clause-blank : goal.returns-clause-blank
returns-clause-blank c = λ i h. named-end c.loop-rest.words c.loop-rest.rest i c.loop-rest-test.false (c.loop-rest.invariant.right i h)
