use Rattle.std.proofs.Common.{arith}
use Rattle.lp_cert.proofs.MoreWaiters.{birth_lines, birth_stand}
use Rattle.lp_cert.proofs.waiters.Waiters.bear.Goals as goal

pub invariant_of-self : goal.invariant_of-self
invariant_of-self c =
    let waits = rw (← c.self.view_is) at c.requires.waits in
    birth_stand c.args.birth.now c.args.parent c.self.inside.groups c.insert.new.self c.self.inside.reasons c.bear.new.self c.self.invariant waits c.bear.ensures.born c.bear.ensures.others c.bear.ensures.scans c.insert.ensures.after c.insert.ensures.numbers (omega arith)

pub returns : goal.returns
returns c =
    let waits = rw (← c.self.view_is) at c.requires.waits in
    rw (← c.self.view_is) (birth_lines c.args.birth.now c.args.parent c.self.inside.groups c.insert.new.self c.self.inside.reasons c.bear.new.self c.self.invariant waits c.bear.ensures.born c.bear.ensures.others c.bear.ensures.scans c.insert.ensures.after c.insert.ensures.numbers (omega arith))

pub bear-requires-clause-head : goal.bear-requires-clause-head
bear-requires-clause-head c = c.self.invariant c.args.parent.0 (rw (← c.self.view_is) at c.requires.waits)

pub bear-requires-clause-room : goal.bear-requires-clause-room
bear-requires-clause-room c = rw (← c.self.view_is) at c.requires.room
