use Rattle.std.proofs.Common.{ap}
use Rattle.std.specs.List.{slice_get}
use Rattle.lp_cert.proofs.chains.Chains.newest.Goals as goal

pub returns : goal.returns
returns c = ap (λ list. slice_get list 0) c.in-Some.ensures.some.list
