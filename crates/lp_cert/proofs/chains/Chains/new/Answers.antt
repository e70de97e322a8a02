use Rattle.std.proofs.Common.{ap}
use Rattle.lp_cert.specs.inside.Chains.{lists_of}
use Rattle.lp_cert.proofs.chains.Chains.new.Goals as goal

pub returns : goal.returns
unfolding lists_of
returns c = ap lists_of c.new.ensures.items
