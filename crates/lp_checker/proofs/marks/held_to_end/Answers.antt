use Rattle.std.proofs.Common.{◌-◌, ap, sym, ◌∙◌}
use Rattle.lp_checker.specs.inside.Cursors.{leg_in}
use Rattle.lp_checker.specs.inside.Sections.{timed}
use Rattle.lp_definitions.specs.Judgement.{is_on_stack}
use Rattle.lp_checker.proofs.BirthLines.{fits_some}
use Rattle.lp_laws.proofs.Held.{sound_hold}
use Rattle.lp_checker.proofs.marks.held_to_end.Goals as goal

pub returns-then-has_frame-clause-marked : goal.returns-then-has_frame-clause-marked
returns-then-has_frame-clause-marked g c = λ group.
    let model = g.M.Consistency.rules in
    let leg = leg_in c.args.cursor.now.range in
    let hold = c.args.hold in
    let end = fits_some _ (hold.to - leg.number) c.in-Some.end c.in-Some.ensures in
    let sound = rw c.go_to.ensures.range at c.if-has_frame.ensures.sound in
    let stands = rw (c.go_to.ensures.range, c.in_ok-go_to.ensures.moment) at c.if-has_frame.ensures.value in
    sound_hold model leg g.met.M.Consistency.lawful sound (timed c.args.section) group hold.task hold.serial hold.from hold.to (c.requires.blamed group) (sym (stands ∙ ap (is_on_stack model leg hold.task.0 hold.serial) end.1))
