use Rattle.std.proofs.Common.{◌≡◌, [], ap, ◌∙◌, subst, arith}
use Rattle.std.proofs.lemmas.Grind.{common_steps}
use Rattle.lp_machine.specs.Table.{state_in}
use Rattle.lp_machine.specs.Steps.{StandsIn}
use Rattle.lp_board.specs.Names.{Name, run_of, state_after}
use Rattle.lp_board.specs.Blanks.{name_of}
use Rattle.lp_board.proofs.BlankLemmas.{stands-after, start-page}
use Rattle.lp_board.proofs.blank.Blank.open.Goals as goal

pub opened-requires-clause-page : goal.opened-requires-clause-page
opened-requires-clause-page g c =
    let name = g.N.DeskName.desk in
    let core = c.self.inside.core in
    let was : Name = name_of g.M.Consistency.rules (record { patches = c.self.inside.patches; boots = c.self.inside.boots.items; book = c.self.inside.seen.book; readers = c.self.inside.readers }) in
    let named : was ≡ name = ap (name_of g.M.Consistency.rules) c.self.view_is ∙ c.requires in
    let here : state_in core ≡ state_after name [] = subst (λ n. state_in core ≡ state_after n []) named (stands-after was [] (state_in core) c.self.invariant.stands) in
    start-page name core (record { levels = c.self.inside.first; heading = c.self.inside.heading; events = [] }) c.again.result here c.self.invariant.first_is (c.again.ensures ∙ c.new-prefix.ensures)

pub returns-in-Ok-clause-stands : goal.returns-in-Ok-clause-stands
returns-in-Ok-clause-stands g c =
    let name = g.N.DeskName.desk in
    let core = c.self.inside.core in
    let was : Name = name_of g.M.Consistency.rules (record { patches = c.self.inside.patches; boots = c.self.inside.boots.items; book = c.self.inside.seen.book; readers = c.self.inside.readers }) in
    let named : was ≡ name = ap (name_of g.M.Consistency.rules) c.self.view_is ∙ c.requires in
    subst (λ (n : Name). StandsIn g.M.Consistency.rules (run_of n []) (state_in core)) named c.self.invariant.stands

pub returns-in-Ok-clause-start : goal.returns-in-Ok-clause-start
returns-in-Ok-clause-start g c = grind (arith, common_steps)

pub returns-in-Ok-clause-count : goal.returns-in-Ok-clause-count
returns-in-Ok-clause-count g c = grind (arith, common_steps)
