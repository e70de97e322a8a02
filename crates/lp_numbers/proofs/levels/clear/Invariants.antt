use Rattle.lp_numbers.specs.inside.Words.{IsThreeLevel}
use Rattle.lp_numbers.proofs.levels.clear.Given as goal

abbrev pub invariant-loop-rest : goal.invariant-loop-rest
invariant-loop-rest l = IsThreeLevel l.words l.summary l.rest

abbrev pub decreases-loop-rest : goal.decreases-loop-rest
decreases-loop-rest l = l.rest
