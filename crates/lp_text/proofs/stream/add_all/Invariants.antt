use Rattle.std.proofs.Common.{◌≡◌, ◌+◌, ◌-◌, ◌≤◌, ◌++◌, ℕ, List, length}
use Rattle.std.specs.Io.KnownBytes.{Consumes}
use Rattle.lp_text.specs.Counts.{AtMost}
use Rattle.lp_text.specs.inside.Streams.{Going, reading_after}
use Rattle.lp_text.specs.Reading.{reading_lines}
use Rattle.lp_text.specs.Words.{lines}
use Rattle.lp_text.proofs.stream.add_all.Given as goal

abbrev pub invariant-loop-count : goal.invariant-loop-count
invariant-loop-count g l =
    ((text : List ℕ) × Consumes (g.R.Read.remaining l.fn.reader.stream) (g.R.Read.remaining l.reader.stream) text × (length text ≡ l.total) × ((bytes : List ℕ) → reading_lines (lines (text ++ bytes)) ≡ reading_after l.stream bytes))
    × (l.total ≤ 134217728) × (l.stream.number + length l.stream.held ≤ 1 + l.total) × (length l.piece ≡ length l.fn.piece) × (1 ≤ l.stream.number)
    × Going l.fn.reader l.reader × AtMost l.total l.fn.reader.calls l.reader.calls

abbrev pub decreases-loop-count : goal.decreases-loop-count
decreases-loop-count g l = 134217728 - l.total
