use Rattle.std.proofs.Common.{◌≡◌}
use Rattle.lp_checker.specs.inside.Cursors.{leg_in}
use Rattle.lp_checker.proofs.BirthLines.{Passed}
use Rattle.lp_checker.proofs.births.birth_fault.Given as goal

-- the lines so far have no fault
abbrev pub invariant-loop-line : goal.invariant-loop-line
invariant-loop-line g l = record {
  range : l.cursor.range ≡ l.fn.cursor.range;
  passed : Passed g.M.Consistency.rules (leg_in l.fn.cursor.range) l.fn.lines l.fn.cursor.range.end l.line-index l.begin l.from;
}
