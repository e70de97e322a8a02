use Rattle.std.proofs.Common.{◌≡◌, sym, true, ◌∙◌}
use Rattle.lp_numbers.specs.Groups.{is_member}
use Rattle.lp_numbers.specs.inside.Links.{groups_of}
use Rattle.lp_numbers.proofs.Links.{empty-is, first-is}
use Rattle.lp_numbers.proofs.members.Members.first.Goals as goal

pub returns-then-first-eq0-clause-none : goal.returns-then-first-eq0-clause-none
returns-then-first-eq0-clause-none c =
    let i = c.self.inside in
    rw (← c.self.view_is) (empty-is i.first i.next i.before c.args.group c.self.invariant.linked (sym c.get-first.ensures.link ∙ c.if-first-eq0.true))

pub returns-clause-some : goal.returns-clause-some
returns-clause-some c =
    let i = c.self.inside in
    let member : is_member (groups_of i.first i.next) c.args.group c.get-first.result ≡ true =
    rw c.get-first.ensures.link (first-is i.first i.next i.before c.args.group c.self.invariant.linked (λ e. c.if-first-eq0.false (c.get-first.ensures.link ∙ e))) in
    rw (← c.self.view_is) member
