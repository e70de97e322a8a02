use Rattle.std.proofs.Common.{◌≡◌, map, drop}
use Rattle.lp_definitions.specs.Tasks.{first_of}
use Rattle.lp_definitions.specs.Judgement.{line_test}
use Rattle.lp_checker.specs.inside.Cursors.{leg_in}
use Rattle.lp_checker.specs.inside.Sections.{timed}
use Rattle.lp_checker.proofs.lines.fault_in.Given as goal

-- no fault so far
abbrev pub invariant-loop-i : goal.invariant-loop-i
invariant-loop-i g l = record {
  range : l.cursor.range ≡ l.fn.cursor.range;
  rest : let test = line_test g.M.Consistency.rules (leg_in l.fn.cursor.range) (timed l.fn.section) in first_of (map test l.fn.lines) ≡ first_of (map test (drop l.i l.fn.lines));
}
