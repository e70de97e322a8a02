use Rattle.std.proofs.Common.{arith}
use Rattle.lp_cert.proofs.ChainLemmas.{one_less, tail_itself, tail_of_tail}
use Rattle.lp_cert.proofs.chains.Chains.jump.Goals as goal

pub returns-in-None-clause-tail : goal.returns-in-None-clause-tail
returns-in-None-clause-tail c = tail_itself _

pub returns-in-Some-clause-known : goal.returns-in-Some-clause-known
returns-in-Some-clause-known c = omega (arith, c.in-Some.ensures.some.linked.jump, c.requires)

pub returns-in-Some-clause-tail : goal.returns-in-Some-clause-tail
returns-in-Some-clause-tail c = let at = c.in-Some.ensures.some in tail_of_tail _ _ _ at.linked.tail (one_less _ _ c.in-Some.entry.now.reason at.list)
