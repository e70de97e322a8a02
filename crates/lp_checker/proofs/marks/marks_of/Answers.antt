use Rattle.std.proofs.Common.{◌≡◌, ◌++◌, List, length, take, drop, take_all, sym, ◌∙◌, subst, arith}
use Rattle.std.proofs.lemmas.Grind.{common_steps}
use Rattle.std.proofs.lemmas.List.{take-append-le}
use Rattle.lp_checker.specs.declared.marks.Mark.{Mark}
use Rattle.lp_checker.specs.inside.Cursors.{leg_in}
use Rattle.lp_checker.specs.inside.Marks.{AreMarked}
use Rattle.lp_checker.specs.inside.Sections.{timed}
use Rattle.lp_checker.proofs.marks.marks_of.Goals as goal

pub returns-clause-marks : goal.returns-clause-marks
returns-clause-marks g c =
    let new = c.mark_lines.new.marks in
    let old = c.in_ok-marks.marks.items in
    let n : length new ≡ c.in_ok-marks.marks.len = c.mark_lines.auto.marks ∙ c.deref_mut.ensures.len in
    let written : take c.in_ok-marks.marks.len (new ++ drop (length new) old) ≡ new = take-append-le c.in_ok-marks.marks.len new (drop (length new) old) (omega (arith, n)) ∙ take_all c.in_ok-marks.marks.len new (omega (arith, n)) in
    subst (λ (marks : List Mark). AreMarked g.M.Consistency.rules (leg_in c.args.cursor.now.range) (timed c.args.section) c.args.lines.now marks) (sym written) c.in_ok-mark_lines.ensures.marks

pub mark_lines-requires-clause-marks : goal.mark_lines-requires-clause-marks
mark_lines-requires-clause-marks g c = grind (arith, common_steps)
