use Rattle.std.proofs.Common.{◌≡◌, ◌+◌, ◌-◌, ◌≤◌, ℕ, List, length}
use Rattle.std.specs.Io.KnownBytes.{Consumes}
use Rattle.lp_text.specs.Counts.{AtMost}
use Rattle.lp_text.specs.inside.Streams.{Going}
use Rattle.lp_text.proofs.input.skip_rest.Given as goal

abbrev pub invariant-loop-count : goal.invariant-loop-count
invariant-loop-count g l =
    ((bytes : List ℕ) × Consumes (g.R.Read.remaining l.fn.reader.stream) (g.R.Read.remaining l.reader.stream) bytes × (l.fn.before + length bytes ≡ l.total)) × (l.total ≤ 134217728) × (length l.piece ≡ length l.fn.piece)
    × Going l.fn.reader l.reader × AtMost (l.total - l.fn.before) l.fn.reader.calls l.reader.calls

abbrev pub decreases-loop-count : goal.decreases-loop-count
decreases-loop-count g l = 134217728 - l.total
