use Rattle.std.proofs.Common.{sym, ◌∙◌}
use Rattle.std.proofs.lemmas.Bool.{eqb-true, eq-eqb}
use Rattle.lp_numbers.proofs.Links.{empty-is, empty-from}
use Rattle.lp_numbers.proofs.members.Members.is_empty_group.Goals as goal

pub returns : goal.returns
returns c =
    let i = c.self.inside in
    let first = c.get.ensures.link in
    rw (← c.self.view_is) (
      λ none. empty-is i.first i.next i.before c.args.group c.self.invariant.linked (sym first ∙ eqb-true c.get.result 0 none),
      λ nobody. eq-eqb c.get.result 0 (first ∙ empty-from i.first i.next i.before c.args.group c.self.invariant.linked nobody),
    )
