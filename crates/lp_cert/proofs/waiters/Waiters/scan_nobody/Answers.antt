use Rattle.lp_cert.proofs.waiters.Waiters.scan_nobody.Goals as goal

pub returns-clause-stood : goal.returns-clause-stood
returns-clause-stood c = rw (← c.self.view_is) c.self.invariant
