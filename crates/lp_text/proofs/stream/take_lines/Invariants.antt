use Rattle.std.proofs.Common.{◌≡◌, ◌+◌, ◌≤◌, ◌++◌, ℕ, List, length}
use Rattle.lp_text.specs.Reading.{reading_from}
use Rattle.lp_text.specs.Words.{lines}
use Rattle.lp_text.proofs.stream.take_lines.Given as goal

abbrev pub invariant-loop-more : goal.invariant-loop-more
invariant-loop-more l =
    ((bytes : List ℕ) → reading_from l.fn.number l.fn.parser (lines (l.fn.text ++ bytes)) ≡ reading_from l.next l.parser (lines (l.rest ++ bytes))) × (l.next + length l.rest ≤ l.fn.number + length l.fn.text) × (l.fn.number ≤ l.next)

abbrev pub decreases-loop-more : goal.decreases-loop-more
decreases-loop-more l = length l.rest
