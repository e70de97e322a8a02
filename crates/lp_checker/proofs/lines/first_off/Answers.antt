use Rattle.std.proofs.Common.{ℕ, suc, ◌+◌, ◌-◌, sym, ap, ◌∙◌, arith}
use Rattle.lp_checker.specs.inside.Cursors.{Range, leg_in}
use Rattle.lp_checker.specs.inside.Sections.{timed}
use Rattle.lp_definitions.specs.Judgement.{is_on_stack}
use Rattle.lp_laws.proofs.FirstBad.{none_bad, bad_here, good_here}
use Rattle.lp_laws.proofs.Held.{hold_within}
use Rattle.lp_checker.proofs.lines.first_off.Goals as goal

pub overflow_add-moment-end : goal.overflow_add-moment-end
overflow_add-moment-end g c =
    let hold = c.args.hold in
    let within = hold_within g.M.Consistency.rules (leg_in c.args.cursor.now.range) (timed c.args.section) (record { 0 = 0 }) hold.task hold.serial hold.from hold.to (c.requires.blamed (record { 0 = 0 })) in
    omega (arith, within.1, c.moment_of-end.ensures.value, c.moment_of-end.ensures.room, c.requires.within)

pub go_to-requires : goal.go_to-requires
go_to-requires g c =
    let hold = c.args.hold in
    let within = hold_within g.M.Consistency.rules (leg_in c.args.cursor.now.range) (timed c.args.section) (record { 0 = 0 }) hold.task hold.serial hold.from hold.to (c.requires.blamed (record { 0 = 0 })) in
    omega (arith, within.1, c.moment_of-end.ensures.value, c.requires.within, c.loop-moment-test.true, ap (λ (range : Range). range.end) c.loop-moment.invariant.range)

pub returns-then-not-has_frame-clause-off : goal.returns-then-not-has_frame-clause-off
returns-then-not-has_frame-clause-off g c =
    let leg = leg_in c.args.cursor.now.range in
    let stands = is_on_stack g.M.Consistency.rules leg c.args.hold.task.0 c.args.hold.serial in
    let here = rw (c.go_to.ensures.range, c.loop-moment.invariant.range, c.in_ok-go_to.ensures.moment) at c.if-not-has_frame.ensures.value in
    let end : ℕ = c.args.hold.to - leg.number in
    sym (c.loop-moment.invariant.rest ∙ bad_here (suc end - c.loop-moment.moment) c.loop-moment.moment stands (omega (arith, c.loop-moment-test.true, c.moment_of-end.ensures.value)) (sym here))

pub loop-moment-preserved : goal.loop-moment-preserved
loop-moment-preserved g c =
    let leg = leg_in c.args.cursor.now.range in
    let stands = is_on_stack g.M.Consistency.rules leg c.args.hold.task.0 c.args.hold.serial in
    let here = rw (c.go_to.ensures.range, c.loop-moment.invariant.range, c.in_ok-go_to.ensures.moment) at c.if-not-has_frame.ensures.value in
    let end : ℕ = c.args.hold.to - leg.number in
    record {
      range = c.go_to.ensures.range ∙ c.loop-moment.invariant.range;
      rest = c.loop-moment.invariant.rest ∙ good_here (suc end - c.loop-moment.moment) (suc end - (c.loop-moment.moment + 1)) c.loop-moment.moment (c.loop-moment.moment + 1) stands (omega (arith, c.loop-moment-test.true, c.moment_of-end.ensures.value)) (omega arith) (sym here);
    }

pub returns-clause-off : goal.returns-clause-off
returns-clause-off g c =
    let leg = leg_in c.args.cursor.now.range in
    let stands = is_on_stack g.M.Consistency.rules leg c.args.hold.task.0 c.args.hold.serial in
    let end : ℕ = c.args.hold.to - leg.number in
    sym (c.loop-moment.invariant.rest ∙ none_bad (suc end - c.loop-moment.moment) c.loop-moment.moment stands (omega (arith, c.loop-moment-test.false, c.moment_of-end.ensures.value)))
