use Rattle.std.proofs.Common.{◌<◌, ◌∙◌, take, sym, ap, subst, arith}
use Rattle.lp_numbers.specs.Numbers.{Numbers, has, IsNextFrom}
use Rattle.lp_cert.specs.Waiters.{waiters_of}
use Rattle.lp_cert.proofs.Making.{least_alone, no_waiter}
use Rattle.lp_cert.proofs.waiters.Waiters.keep_least.Goals as goal

pub returns-in_default-clause-least : goal.returns-in_default-clause-least
returns-in_default-clause-least c =
    let none = no_waiter c.args.self.now (rw (← c.self.view_is) (subst (IsNextFrom (has c.self.inside.groups) 0) c.in_default.is c.next.ensures)) in
    none ∙ sym (ap (take 1) none)

pub returns-clause-least : goal.returns-clause-least
returns-clause-least c =
    let i = c.self.inside in
    let group = c.in-Some.group in
    let few : group < 65536 = omega arith in
    rw (← c.self.view_is)
    (ap (λ (groups : Numbers). waiters_of (record { groups = groups; reasons = i.reasons })) c.insert.ensures.after
    ∙ least_alone c.clear.new.self group c.clear.ensures.empty c.clear.ensures.numbers few (record { groups = i.groups; reasons = i.reasons }) (subst (IsNextFrom (has i.groups) 0) c.in-Some.is c.next.ensures))
