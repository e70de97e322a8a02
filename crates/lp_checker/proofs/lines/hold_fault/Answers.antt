use Rattle.std.proofs.Common.{ℕ, suc, ◌+◌, ◌-◌, Option, Some, sym, ap, ◌∙◌, arith}
use Rattle.std.specs.Option.{option_map}
use Rattle.lp_definitions.specs.declared.cert_fault.CertFault.TheVariants.{NotOnStack}
use Rattle.lp_checker.specs.inside.Cursors.{leg_in}
use Rattle.lp_checker.specs.inside.Sections.{timed}
use Rattle.lp_definitions.specs.Judgement.{is_on_stack}
use Rattle.lp_laws.proofs.FirstBad.{bad_within}
use Rattle.lp_laws.proofs.Held.{hold_within, no_hold, hold_by}
use Rattle.lp_checker.proofs.lines.hold_fault.Goals as goal

pub returns-then-not-branch-clause-fault : goal.returns-then-not-branch-clause-fault
returns-then-not-branch-clause-fault g c = λ group.
    let hold = c.args.hold in
    sym (no_hold g.M.Consistency.rules (leg_in c.args.cursor.now.range) (timed c.args.section) group hold.task hold.serial hold.from hold.to (sym (c.in_ok-is_blamed.ensures.blamed group) ∙ c.if-not-branch.true))

pub first_off-requires-clause-blamed : goal.first_off-requires-clause-blamed
first_off-requires-clause-blamed g c = λ group. rw c.is_blamed.ensures.range (sym (c.in_ok-is_blamed.ensures.blamed group) ∙ c.if-not-branch.false)

pub overflow_add-left : goal.overflow_add-left
overflow_add-left g c =
    let leg = leg_in c.args.cursor.now.range in
    let hold = c.args.hold in
    let begin : ℕ = hold.from - leg.number in
    let end : ℕ = hold.to - leg.number in
    let blamed = sym (c.in_ok-is_blamed.ensures.blamed (record { 0 = 0 })) ∙ c.if-not-branch.false in
    let within = hold_within g.M.Consistency.rules leg (timed c.args.section) (record { 0 = 0 }) hold.task hold.serial hold.from hold.to blamed in
    let off = rw c.is_blamed.ensures.range at c.in_ok-first_off.ensures.off in
    let there = bad_within (suc end - begin) begin (is_on_stack g.M.Consistency.rules leg hold.task.0 hold.serial) c.in-Some.moment (sym off ∙ c.in-Some.is) in
    let same = c.first_off.ensures.range ∙ c.is_blamed.ensures.range in
    let number = rw same at c.number.ensures.value in
    let room = rw same at c.number.ensures.room in
    omega (arith, there.1, within.0, within.1, c.requires, number, room)

pub returns-in-None-clause-fault : goal.returns-in-None-clause-fault
returns-in-None-clause-fault g c = λ group.
    let leg = leg_in c.args.cursor.now.range in
    let hold = c.args.hold in
    let blamed = sym (c.in_ok-is_blamed.ensures.blamed group) ∙ c.if-not-branch.false in
    let off = rw c.is_blamed.ensures.range at c.in_ok-first_off.ensures.off in
    sym (
    hold_by g.M.Consistency.rules leg (timed c.args.section) group hold.task hold.serial hold.from hold.to blamed
    ∙ ap (λ (o : Option ℕ). option_map (λ (moment : ℕ). NotOnStack (leg.number + moment)) o) (sym off ∙ c.in-None.is))

pub returns-in-Some-clause-fault : goal.returns-in-Some-clause-fault
returns-in-Some-clause-fault g c = λ group.
    let leg = leg_in c.args.cursor.now.range in
    let hold = c.args.hold in
    let blamed = sym (c.in_ok-is_blamed.ensures.blamed group) ∙ c.if-not-branch.false in
    let off = rw c.is_blamed.ensures.range at c.in_ok-first_off.ensures.off in
    let number = rw (c.first_off.ensures.range, c.is_blamed.ensures.range) at c.number.ensures.value in
    sym (
    hold_by g.M.Consistency.rules leg (timed c.args.section) group hold.task hold.serial hold.from hold.to blamed
    ∙ ap (λ (o : Option ℕ). option_map (λ (moment : ℕ). NotOnStack (leg.number + moment)) o) (sym off ∙ c.in-Some.is)
    ∙ ap (λ (n : ℕ). Some (NotOnStack (n + c.in-Some.moment))) (sym number))

pub first_off-requires-clause-within : goal.first_off-requires-clause-within
first_off-requires-clause-within g c = rw c.is_blamed.ensures.range c.requires
