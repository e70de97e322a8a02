use Rattle.std.proofs.Common.{◌≡◌, ◌+◌, count_by, length}
use Rattle.lp_compare.specs.Comparison.{is_born}
use Rattle.lp_compare.proofs.first_end.births.Given as goal

abbrev pub invariant-loop-line : goal.invariant-loop-line
invariant-loop-line l = l.births + count_by is_born l.lines ≡ count_by is_born l.fn.lines

abbrev pub decreases-loop-line : goal.decreases-loop-line
decreases-loop-line l = length l.lines
