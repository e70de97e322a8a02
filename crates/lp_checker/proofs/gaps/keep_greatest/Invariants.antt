use Rattle.lp_checker.proofs.SpanLines.{Kept}
use Rattle.lp_checker.proofs.gaps.keep_greatest.Given as goal

-- the numbers so far are put
abbrev pub invariant-loop-number : goal.invariant-loop-number
invariant-loop-number l = Kept l.number-index l.initial.numbers l.numbers l.greatest
