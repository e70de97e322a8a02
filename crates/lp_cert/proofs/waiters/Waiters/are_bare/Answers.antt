use Rattle.lp_cert.proofs.waiters.Waiters.are_bare.Goals as goal

pub returns : goal.returns
returns c = rw (← c.self.view_is) c.are_bare.ensures
