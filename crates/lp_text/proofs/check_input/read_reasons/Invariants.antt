use Rattle.std.proofs.Common.{◌≡◌, ◌≤◌, ◌+◌, [], length}
use Rattle.lp_text.specs.CheckReading.{reasons_from}
use Rattle.lp_text.specs.Words.{lines}
use Rattle.lp_text.proofs.check_input.read_reasons.Given as goal

abbrev pub invariant-loop-reason : goal.invariant-loop-reason
invariant-loop-reason l =
    (reasons_from l.fn.first [] (lines l.fn.text) ≡ reasons_from l.number l.reasons.items (lines l.rest)) × (l.number + length l.rest ≤ l.fn.first + length l.fn.text)

abbrev pub decreases-loop-reason : goal.decreases-loop-reason
decreases-loop-reason l = length l.rest
