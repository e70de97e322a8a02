use Rattle.std.proofs.Common.{◌≡◌, ◌∷◌, ◌++◌, [], List, arith, subst, sym, length}
use Rattle.std.proofs.lemmas.Grind.{common_steps}
use Rattle.lp_definitions.specs.declared.event.Event.{Event}
use Rattle.lp_definitions.specs.Leg.{State}
use Rattle.lp_machine.specs.Machine.{next}
use Rattle.lp_machine.specs.Steps.{StandsIn}
use Rattle.lp_machine.specs.Table.{Engine, state_in}
use Rattle.lp_board.specs.Names.{state_after}
use Rattle.lp_board.specs.Pages.{IsHeading, Leads}
use Rattle.lp_log.specs.Journals.{Written, run_of}
use Rattle.lp_desk.proofs.Shown.{leads_shown, shown_number, there_shown}
use Rattle.lp_desk.proofs.book.publish.publish.Goals as goal

pub of-requires-clause-heading : goal.of-requires-clause-heading
of-requires-clause-heading g c =
    let name = g.N.DeskName.desk in
    let model = g.M.Consistency.rules in
    let journal : Written = c.args.log.now.journal in
    let s : State = state_in c.core.result.now in
    let stands : StandsIn model (run_of journal) s = subst (λ (core : Engine). StandsIn model (run_of journal) (state_in core)) (sym c.core.ensures.value) c.core.ensures.stands in
    subst (λ (shown : State). IsHeading c.heading.result shown) (sym (there_shown name model journal c.args.board.now c.requires.shown s stands)) c.heading.ensures

pub show-requires-clause-room : goal.show-requires-clause-room
show-requires-clause-room g c =
    let number = shown_number g.N.DeskName.desk g.M.Consistency.rules c.args.log.now.journal c.args.board.now c.requires.shown c.args.log.now.core c.core.ensures.stands in
    omega (arith, number, c.requires.weighed.room)

pub show-requires-clause-leads : goal.show-requires-clause-leads
show-requires-clause-leads g c =
    let name = g.N.DeskName.desk in
    let model = g.M.Consistency.rules in
    let journal : Written = c.args.log.now.journal in
    let shown : List Event = c.args.board.now in
    let s : State = state_in c.core.result.now in
    let update = c.in_ok-update.update in
    let stands : StandsIn model (run_of journal) s = subst (λ (core : Engine). StandsIn model (run_of journal) (state_in core)) (sym c.core.ensures.value) c.core.ensures.stands in
    let leads : Leads s update (next model s c.args.step.now.event) = c.in_ok-update.ensures in
    subst (λ (event : Event). Leads (state_after name shown) update (state_after name (shown ++ event ∷ []))) (sym c.event.ensures)
    (leads_shown name model journal shown c.requires.shown g.met.M.Consistency.lawful s stands c.args.step.now.event update leads)

pub of-requires-clause-weighed : goal.of-requires-clause-weighed
of-requires-clause-weighed g c = grind (arith, common_steps)

pub returns-clause-published : goal.returns-clause-published
returns-clause-published g c = grind (arith, common_steps)
