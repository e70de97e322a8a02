use Rattle.std.proofs.Common.{◌∙◌, arith}
use Rattle.std.proofs.lemmas.Grind.{common_steps}
use Rattle.lp_checker.specs.inside.Cursors.{leg_in}
use Rattle.lp_checker.specs.inside.Sections.{timed}
use Rattle.lp_checker.proofs.MarkLines.{marks_with}
use Rattle.lp_checker.proofs.marks.mark_by.Goals as goal

pub mark_at-requires-clause-marked : goal.mark_at-requires-clause-marked
mark_at-requires-clause-marked g c = rw c.loop-look.invariant.range (c.loop-look.invariant.marks.each _ (c.requires.looks c.loop-look.look-index _ c.loop-look-test.true) _ _)

pub loop-look-preserved : goal.loop-look-preserved
loop-look-preserved g c =
    let marked = rw c.loop-look.invariant.range at c.in_ok-marks.ensures.marked in
    record {
      range = c.mark_at.ensures.range ∙ c.loop-look.invariant.range;
      marks = marks_with g.M.Consistency.rules (leg_in c.args.cursor.now.range) (timed c.args.section) c.args.lines.now c.loop-look.marks _ _ _ (c.requires.looks c.loop-look.look-index _ c.loop-look-test.true) marked c.loop-look.invariant.marks;
    }

pub mark_at-requires-clause-within : goal.mark_at-requires-clause-within
mark_at-requires-clause-within g c = rw c.loop-look.invariant.range c.requires.within

pub bounds-marks-i : goal.bounds-marks-i
bounds-marks-i g c = grind (arith, common_steps)
