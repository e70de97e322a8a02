use Rattle.lp_cert.proofs.ChainLemmas.{tail_before}
use Rattle.lp_cert.proofs.chains.Chains.shared.Goals as goal

pub loop-shared-preserved : goal.loop-shared-preserved
loop-shared-preserved c =
    let i = c.loop-shared.invariant in
    record { known = c.older-shared.ensures.known; first = tail_before _ _ _ c.older-shared.ensures.list i.first; second = tail_before _ _ _ c.older-shared.ensures.list i.second }
