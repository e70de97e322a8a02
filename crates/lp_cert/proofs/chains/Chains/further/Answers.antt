use Rattle.std.proofs.Common.{ap, arith, length}
use Rattle.lp_cert.proofs.ChainLemmas.{one_less, tail_of_tail}
use Rattle.lp_cert.proofs.chains.Chains.further.Goals as goal

pub count-requires : goal.count-requires
count-requires c = omega (arith, c.in-Some.ensures.some.linked.jump, c.requires.known)

pub returns-then-count-kept-clause-before : goal.returns-then-count-kept-clause-before
returns-then-count-kept-clause-before c = c.in-Some.ensures.some.linked.older

pub returns-then-count-kept-clause-tail : goal.returns-then-count-kept-clause-tail
returns-then-count-kept-clause-tail c = one_less _ _ c.in-Some.entry.now.reason c.in-Some.ensures.some.list

pub returns-then-count-kept-clause-enough : goal.returns-then-count-kept-clause-enough
returns-then-count-kept-clause-enough c = omega (arith, ap length c.in-Some.ensures.some.list, c.requires.more)

pub returns-else-count-kept-clause-before : goal.returns-else-count-kept-clause-before
returns-else-count-kept-clause-before c = c.in-Some.ensures.some.linked.jump

pub returns-else-count-kept-clause-tail : goal.returns-else-count-kept-clause-tail
returns-else-count-kept-clause-tail c =
    let at = c.in-Some.ensures.some in
    tail_of_tail _ _ _ at.linked.tail (one_less _ _ c.in-Some.entry.now.reason at.list)
