use Rattle.std.proofs.Common.{sym, ap, subst, ◌∙◌}
use Rattle.std.specs.Option.{option_map}
use Rattle.lp_stack.specs.declared.number.GroupId.{GroupId}
use Rattle.lp_numbers.specs.Numbers.{has, IsNextFrom}
use Rattle.lp_cert.specs.Ends.{floor_in}
use Rattle.lp_cert.specs.Invariant.{open_end}
use Rattle.lp_cert.proofs.Asked.{no_floor, floor_asked, not_some}
use Rattle.lp_cert.proofs.Keeping.{ok_weaker}
use Rattle.lp_cert.proofs.maker.Maker.floor.Goals as goal

pub returns-in_default-least : goal.returns-in_default-least
returns-in_default-least c =
    let i = c.self.inside in
    let unended = not_some c.in-Some.leg.completed (sym c.is_some.ensures ∙ c.if-is_some.false) in
    let next = subst (λ o. IsNextFrom (has i.waiters.groups) 0 (option_map (λ (g : GroupId). g.0) o)) c.in_default-least.is c.least.ensures.least in
    rw (← c.self.view_is)
    (no_floor i.noted i.waiters c.in-Some.leg unended next ∙ ap (λ o. floor_in (option_map (open_end i.noted i.waiters) o)) (sym c.in-Some.is))

pub returns : goal.returns
returns c =
    let i = c.self.inside in
    let group = c.in-Some-least.group in
    let unended = not_some c.in-Some.leg.completed (sym c.is_some.ensures ∙ c.if-is_some.false) in
    let asked = floor_asked i.noted i.waiters c.in-Some.leg unended group c.in-Some-least.ensures.least c.in-Some-least.ensures.few ∙ ap (λ o. floor_in (option_map (open_end i.noted i.waiters) o)) (sym c.in-Some.is) in
    rw (← c.self.view_is) (ok_weaker _ _ (λ found is. is ∙ asked) c.cert_of.result c.cert_of.ensures)
