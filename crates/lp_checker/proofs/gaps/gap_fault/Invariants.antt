use Rattle.std.proofs.Common.{◌≡◌, ℕ, length, map, drop}
use Rattle.lp_definitions.specs.Tasks.{first_of}
use Rattle.lp_definitions.specs.Judgement.{gap_test}
use Rattle.lp_checker.specs.inside.Cursors.{leg_in}
use Rattle.lp_checker.specs.inside.Sections.{section_of, FollowOn}
use Rattle.lp_checker.proofs.gaps.gap_fault.Given as goal

-- no gap so far
abbrev pub invariant-loop-section : goal.invariant-loop-section
invariant-loop-section g l = record {
  range : l.cursor.range ≡ l.fn.cursor.range;
  times : (begin : ℕ) × FollowOn (length l.fn.lines) l.fn.cursor.range.end begin (drop l.section-index l.fn.sections);
  rest : let test = gap_test g.M.Consistency.rules (leg_in l.fn.cursor.range) in first_of (map test (map (section_of l.fn.lines) l.fn.sections)) ≡ first_of (map test (map (section_of l.fn.lines) (drop l.section-index l.fn.sections)));
}
