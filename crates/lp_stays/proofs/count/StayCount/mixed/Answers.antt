use Rattle.std.proofs.Common.{ap}
use Rattle.lp_stays.specs.Invariant.{Tally}
use Rattle.lp_stays.proofs.count.StayCount.mixed.Goals as goal

pub returns : goal.returns
returns c = ap (λ (kept : Tally). kept.mixed) c.self.view_is
