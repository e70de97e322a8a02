use Rattle.std.proofs.Common.{length}
use Rattle.lp_text.proofs.Divided.{IsAt}
use Rattle.lp_text.proofs.check_input.divide.Given as goal

abbrev pub invariant-loop-more : goal.invariant-loop-more
invariant-loop-more l = IsAt l.fn.text l.line l.rest

abbrev pub decreases-loop-more : goal.decreases-loop-more
decreases-loop-more l = length l.rest
