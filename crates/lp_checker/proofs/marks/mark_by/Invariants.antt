use Rattle.std.proofs.Common.{◌≡◌}
use Rattle.lp_checker.specs.inside.Cursors.{leg_in}
use Rattle.lp_checker.specs.inside.Marks.{AreMarked}
use Rattle.lp_checker.specs.inside.Sections.{timed}
use Rattle.lp_checker.proofs.marks.mark_by.Given as goal

-- each mark is right
abbrev pub invariant-loop-look : goal.invariant-loop-look
invariant-loop-look g l = record {
  range : l.cursor.range ≡ l.fn.cursor.range;
  marks : AreMarked g.M.Consistency.rules (leg_in l.fn.cursor.range) (timed l.fn.section) l.fn.lines l.marks;
}
