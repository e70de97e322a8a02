use Rattle.std.proofs.Common.{arith}
use Rattle.std.proofs.lemmas.Grind.{common_steps}
use Rattle.lp_cert.proofs.Making.{open_end_same}
use Rattle.lp_cert.proofs.maker.Maker.ready.Goals as goal

pub returns-in_err-reserve-clause-current : goal.returns-in_err-reserve-clause-current
returns-in_err-reserve-clause-current g c =
    let i = c.self.inside in
    rw (← c.self.view_is) (open_end_same c.reserve.new.self i.waiters c.reserve.ensures.groups c.reserve.ensures.heads i.noted c.reserve.ensures.lists c.reserve.ensures.scans i.current)

pub returns-clause-current : goal.returns-clause-current
returns-clause-current g c =
    let i = c.self.inside in
    rw (← c.self.view_is) (open_end_same c.reserve.new.self i.waiters c.reserve.ensures.groups c.reserve.ensures.heads i.noted c.reserve.ensures.lists c.reserve.ensures.scans i.current)

pub returns-clause-ended : goal.returns-clause-ended
returns-clause-ended g c = grind (arith, common_steps)
