use Rattle.std.proofs.Common.{rules, ◌≡◌, ◌∷◌, ◌++◌, [], drop, subst, fold, ap, sym, ◌∙◌, arith}
use Rattle.std.proofs.lemmas.Grind.{common_steps}
use Rattle.lp_board.specs.Names.{state_after}
use Rattle.lp_board.specs.Pages.{IsPage, Leads, page_after}
use Rattle.lp_board.specs.inside.Publishers.{page_of}
use Rattle.lp_board.specs.declared.sheet.Change.{Change}
use Rattle.lp_board.specs.declared.sheet.Page.{Page}
use Rattle.lp_board.proofs.PageLemmas.{shows-after, fold-one}
use Rattle.lp_board.proofs.publisher.Publisher.show.Goals as goal

pub replace_with-requires : goal.replace_with-requires
replace_with-requires g c =
    let name = g.N.DeskName.desk in
    let event = c.args.event in
    let update = c.args.update in
    let leads = subst (λ es. Leads (state_after name es) update (state_after name (es ++ event ∷ []))) (sym c.self.view_is) c.requires.leads in
    shows-after {N = g.row.N.Denot} name c.self.inside.prefix (c.self.inside.prefix ++ event ∷ []) (page_of c.self.inside.writer.desk.shown.value) (page_of c.append.new.self.desk.shown.value) (drop c.append.new.self.behind c.append.new.self.log.items) (record { update = update; prefix = c.again.result })
    c.self.invariant.page_is c.self.invariant.events_are leads (search rules) (ap (λ d. page_of d.shown.value) c.append.ensures.desk) (search rules)

pub invariant_of-self-2 : goal.invariant_of-self-2
invariant_of-self-2 g c =
    let name = g.N.DeskName.desk in
    let event = c.args.event in
    let update = c.args.update in
    let leads = subst (λ es. Leads (state_after name es) update (state_after name (es ++ event ∷ []))) (sym c.self.view_is) c.requires.leads in
    let change : Change g.row.N.Denot = record { update = update; prefix = c.again.result } in
    let was = page_of c.self.inside.writer.desk.shown.value in
    let now = page_of c.append.new.self.desk.shown.value in
    let pending = drop c.append.new.self.behind c.append.new.self.log.items in
    let same : now ≡ was = ap (λ d. page_of d.shown.value) c.append.ensures.desk in
    let one : pending ≡ change ∷ [] = search rules in
    let is = shows-after {N = g.row.N.Denot} name c.self.inside.prefix (c.self.inside.prefix ++ event ∷ []) was now pending change
    c.self.invariant.page_is c.self.invariant.events_are leads (search rules) same one in
    let new : page_of c.replace_with.new.dest.desk.shown.value ≡ fold page_after now pending = search rules in
    record {
      head_is = c.self.invariant.head_is;
      events_are = ap (λ (p : Page). p.events) (new ∙ fold-one {N = g.row.N.Denot} was now pending change same one) ∙ c.again.ensures;
      page_is = subst (IsPage name) (sym new) is;
      none_pending = search rules;
    }

pub invariant_of-self : goal.invariant_of-self
invariant_of-self g c = grind (arith, common_steps)
