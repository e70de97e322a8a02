use Rattle.std.proofs.Common.{◌≡◌, ◌≤◌, ◌+◌, length}
use Rattle.lp_text.specs.Words.{lines}
use Rattle.lp_text.specs.Reading.{reading_from}
use Rattle.lp_text.proofs.read.read_lines.Given as goal

abbrev pub invariant-loop-more : goal.invariant-loop-more
invariant-loop-more l =
    (reading_from l.fn.first l.fn.parser (lines l.fn.text) ≡ reading_from l.number l.parser (lines l.rest)) × (l.number + length l.rest ≤ l.fn.first + length l.fn.text)

abbrev pub decreases-loop-more : goal.decreases-loop-more
decreases-loop-more l = length l.rest
