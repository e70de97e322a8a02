use Rattle.std.proofs.Common.{List, length, sym, subst}
use Rattle.lp_cert.specs.declared.head.Waiter.{Waiter}
use Rattle.lp_cert.specs.inside.Waiters.{AreHeads}
use Rattle.lp_cert.proofs.Keeping.{ok_weaker, waiting_heads}
use Rattle.lp_cert.proofs.waiters.Waiters.list.Goals as goal

pub returns-clause-stands : goal.returns-clause-stands
returns-clause-stands c =
    let i = c.self.inside in
    let heads = waiting_heads i.groups i.reasons c.self.invariant in
    rw (← c.self.view_is)
    (ok_weaker _ _ (λ list is. subst (λ (l : List Waiter). AreHeads i.reasons.lists (length i.reasons.scans) l) (sym is) heads) c.listed.result c.listed.ensures)
