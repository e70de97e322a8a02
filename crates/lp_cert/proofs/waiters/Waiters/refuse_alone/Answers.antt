use Rattle.lp_cert.proofs.OwnChecks.{alone_lines, alone_stand, as_said}
use Rattle.lp_cert.proofs.waiters.Waiters.refuse_alone.Goals as goal

pub invariant_of-self : goal.invariant_of-self
invariant_of-self c =
    let waits = rw (← c.self.view_is) at c.requires.waits in
    let stands = c.args.refused.now.frame_stands in
    alone_stand (λ task serial. stands) c.args.group c.args.refused.now c.self.inside.groups c.self.inside.reasons c.refuse_alone.new.self c.self.invariant waits c.refuse_alone.ensures.refused c.refuse_alone.ensures.others c.refuse_alone.ensures.scans (as_said _ stands)

pub returns : goal.returns
returns c = λ has_frame told.
    let waits = rw (← c.self.view_is) at c.requires.waits in
    let told_inside = rw (← c.self.view_is) at told in
    rw (← c.self.view_is) (alone_lines has_frame c.args.group c.args.refused.now c.self.inside.groups c.self.inside.reasons c.refuse_alone.new.self c.self.invariant waits c.refuse_alone.ensures.refused c.refuse_alone.ensures.others c.refuse_alone.ensures.scans told_inside)
