use Rattle.std.proofs.Common.{refl}
use Rattle.lp_cert.specs.inside.Chains.{lists_of}
use Rattle.lp_cert.proofs.chains.Chains.clear.Goals as goal

pub returns : goal.returns
unfolding lists_of
returns c = rw c.clear.ensures.items refl
