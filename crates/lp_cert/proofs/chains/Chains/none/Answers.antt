use Rattle.std.proofs.Common.{arith}
use Rattle.lp_cert.proofs.ChainLemmas.{empty_first, lists_of-length}
use Rattle.lp_cert.proofs.chains.Chains.none.Goals as goal

pub returns-clause-known : goal.returns-clause-known
returns-clause-known c = rw (← c.self.view_is) (omega (arith, lists_of-length c.self.inside.entries.items))

pub returns-clause-list : goal.returns-clause-list
returns-clause-list c = rw (← c.self.view_is) (empty_first c.self.inside.entries.items)
