use Rattle.lp_cert.proofs.reasons.Reasons.lines.Goals as goal

pub lines-requires : goal.lines-requires
lines-requires c = rw (c.as_slice.ensures.value, c.head-head.ensures, ← c.self.view_is) (rw (← c.self.view_is) at c.requires)
