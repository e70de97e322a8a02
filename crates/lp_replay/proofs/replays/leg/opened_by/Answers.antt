use Rattle.std.proofs.Common.{arith, ◌≡◌, ◌∷◌, ◌∙◌, sym, ap, length, length-append, subst, []}
use Rattle.std.proofs.lemmas.Grind.{common_steps}
use Rattle.lp_definitions.specs.Run.{leg_of, plus}
use Rattle.lp_machine.specs.Steps.{StandsIn}
use Rattle.lp_machine.specs.Table.{Engine, state_in}
use Rattle.lp_replay.specs.Legs.{opened_by}
use Rattle.lp_replay.proofs.Legs.{none_opened, opened_at}
use Rattle.lp_cert.proofs.Explaining.{number_is}
use Rattle.lp_replay.proofs.replays.leg.opened_by.Goals as goal

pub step-requires : goal.step-requires
step-requires g c =
    let h = c.requires in
    let whole : c.args.events.now ≡ c.in-Some.event.now ∷ c.in-Some.rest.now = c.in-Some.ensures.cases.0 in
    omega (arith, h.2, number_is g.M.Consistency.rules h.0 c.args.core.now h.1, ap length whole)

pub returns-then-not-branch : goal.returns-then-not-branch
returns-then-not-branch g c = λ run stands.
    let model = g.M.Consistency.rules in
    let whole : c.args.events.now ≡ c.in-Some.event.now ∷ c.in-Some.rest.now = c.in-Some.ensures.cases.0 in
    let said = c.in_ok-step.ensures run stands in
    none_opened model run c.in-Some.event.now c.in-Some.rest.now (sym said.0 ∙ c.if-not-branch.true) ∙ ap (opened_by model (leg_of model run)) (sym whole)

pub to_end-requires : goal.to_end-requires
to_end-requires g c =
    let h = c.requires in
    let whole : c.args.events.now ≡ c.in-Some.event.now ∷ c.in-Some.rest.now = c.in-Some.ensures.cases.0 in
    let event = c.in-Some.event.now in
    (plus h.0 event, (c.in_ok-step.ensures h.0 h.1).1, omega (arith, h.2, ap length whole, length-append h.0.events (event ∷ [])))

pub returns : goal.returns
returns g c = λ run stands.
    let model = g.M.Consistency.rules in
    let whole : c.args.events.now ≡ c.in-Some.event.now ∷ c.in-Some.rest.now = c.in-Some.ensures.cases.0 in
    let said = c.in_ok-step.ensures run stands in
    let same = c.in_ok-opening.ensures.same in
    let there : StandsIn model (plus run c.in-Some.event.now) (state_in c.in_ok-opening.opening) = subst (λ (e : Engine). StandsIn model (plus run c.in-Some.event.now) (state_in e)) (sym same) said.1 in
    opened_at model run c.in-Some.event.now c.in-Some.rest.now c.in_ok-opening.opening c.in_ok-count.count (sym said.0 ∙ c.if-not-branch.false) there c.in_ok-opening.ensures.opens (c.in_ok-count.ensures.leg (plus run c.in-Some.event.now) said.1)
    ∙ ap (opened_by model (leg_of model run)) (sym whole)

pub slice_bounds-result-end : goal.slice_bounds-result-end
slice_bounds-result-end g c = grind (arith, common_steps)
