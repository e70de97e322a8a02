use Rattle.std.proofs.Common.{◌≡◌, ℕ, length, map, drop}
use Rattle.std.specs.List.{flat_map}
use Rattle.lp_definitions.specs.Tasks.{first_of}
use Rattle.lp_definitions.specs.Judgement.{line_tests}
use Rattle.lp_checker.specs.inside.Cursors.{leg_in}
use Rattle.lp_checker.specs.inside.Sections.{section_of, FollowOn}
use Rattle.lp_checker.proofs.lines.line_fault.Given as goal

-- no fault so far
abbrev pub invariant-loop-section : goal.invariant-loop-section
invariant-loop-section g l = record {
  range : l.cursor.range ≡ l.fn.cursor.range;
  times : (begin : ℕ) × FollowOn (length l.fn.lines) l.fn.cursor.range.end begin (drop l.section-index l.fn.sections);
  rest : let tests = line_tests g.M.Consistency.rules (leg_in l.fn.cursor.range) in first_of (flat_map tests (map (section_of l.fn.lines) l.fn.sections)) ≡ first_of (flat_map tests (map (section_of l.fn.lines) (drop l.section-index l.fn.sections)));
}
