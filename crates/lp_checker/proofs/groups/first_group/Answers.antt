use Rattle.std.proofs.Common.{◌≡◌, ◌≤◌, ℕ, suc, pred, ◌-◌, ◌∷◌, drop, sym, ap, ◌∙◌, subst, arith}
use Rattle.std.proofs.lemmas.Grind.{common_steps}
use Rattle.std.proofs.lemmas.Result.{IfOk-weaker}
use Rattle.lp_stack.specs.declared.number.GroupId.{GroupId}
use Rattle.lp_definitions.specs.Leg.{after}
use Rattle.lp_checker.specs.inside.Births.{group_or_0}
use Rattle.std.proofs.Math.Seq.{drop-cons}
use Rattle.lp_definitions.specs.declared.line.Line.{Line}
use Rattle.lp_definitions.specs.declared.line.Line.TheVariants.{Born}
use Rattle.lp_checker.specs.inside.Cursors.{leg_in}
use Rattle.lp_checker.specs.inside.Sections.{AreInOrder}
use Rattle.lp_definitions.specs.Judgement.{births, first_group}
use Rattle.lp_checker.proofs.SectionLines.{ends_in_time}
use Rattle.lp_checker.proofs.groups.first_group.Goals as goal

pub group_before-requires : goal.group_before-requires
group_before-requires g c = rw c.loop-line.invariant.range (omega (arith, rw c.loop-line.invariant.range at c.end.ensures.value, c.min-moment.ensures))

pub returns-in-Born-clause-range : goal.returns-in-Born-clause-range
returns-in-Born-clause-range g c = c.group_before.ensures.range ∙ c.loop-line.invariant.range

pub returns-in-Born-clause-group : goal.returns-in-Born-clause-group
returns-in-Born-clause-group g c = λ ordered.
    let model = g.M.Consistency.rules in
    let range = c.args.cursor.now.range in
    let leg = leg_in range in
    let lines = c.args.lines.now in
    let i = c.loop-line.line-index in
    let here : births lines ≡ births (Born c.in-Born.group c.in-Born.parent c.in-Born.at ∷ drop (suc i) lines) = c.loop-line.invariant.rest ∙ ap births (drop-cons lines i _ c.loop-line-test.true) ∙ ap (λ (l : Line). births (l ∷ drop (suc i) lines)) c.in-Born.is in
    let order = subst (AreInOrder leg range.end 0) here ordered in
    let in_time : c.in-Born.at - leg.number ≤ range.end = ends_in_time leg range.end (c.in-Born.at - leg.number) (births (drop (suc i) lines)) order.1 in
    let at_moment = rw c.loop-line.invariant.range at c.moment_of.ensures.value in
    let at_end = rw c.loop-line.invariant.range at c.end.ensures.value in
    let moment : c.min-moment.result ≡ c.in-Born.at - leg.number = omega (arith, in_time, at_moment, at_end, c.min-moment.ensures) in
    let before = λ (m : ℕ). group_or_0 (after model leg (pred m) c.in-Born.parent.0) in
    IfOk-weaker c.group_before.result (λ (group : GroupId). group.0 ≡ before c.min-moment.result) (λ group. group.0 ≡ first_group model leg c.args.claimed.0 (births lines)) (λ group e. e ∙ ap before moment ∙ sym (ap (first_group model leg c.args.claimed.0) here)) (rw c.loop-line.invariant.range at c.group_before.ensures.group)

pub loop-line-preserved : goal.loop-line-preserved
loop-line-preserved g c = grind (arith, common_steps)

pub returns-clause-group : goal.returns-clause-group
returns-clause-group g c = grind (arith, common_steps)
