use Rattle.lp_cert.proofs.ChainLemmas.{tail_before}
use Rattle.lp_cert.proofs.chains.Chains.common.Goals as goal

pub loop-one-preserved-then-one-other : goal.loop-one-preserved-then-one-other
loop-one-preserved-then-one-other c =
    let i = c.loop-one.invariant in
    record { first_known = c.older-one.ensures.known; second_known = i.second_known; first = tail_before _ _ _ c.older-one.ensures.list i.first; second = i.second }

pub loop-one-preserved : goal.loop-one-preserved
loop-one-preserved c =
    let i = c.loop-one.invariant in
    record { first_known = i.first_known; second_known = c.older-other.ensures.known; first = i.first; second = tail_before _ _ _ c.older-other.ensures.list i.second }
