use Rattle.std.proofs.Common.{◌≡◌, length}
use Rattle.lp_checker.specs.inside.Cursors.{leg_in}
use Rattle.lp_checker.proofs.SectionLines.{Made}
use Rattle.lp_checker.proofs.sections.sections.Given as goal

-- the sections that ended so far, and the one that is open
abbrev pub invariant-loop-i : goal.invariant-loop-i
invariant-loop-i g l = record {
  made : Made (leg_in l.fn.cursor.range) l.fn.lines l.fn.cursor.range.end l.fn.first.0 l.i l.parts.items l.part.group.0 l.part.begin l.part.start;
  until : l.part.until ≡ l.fn.cursor.range.end;
  end : l.part.end ≡ length l.fn.lines;
}
