use Rattle.std.proofs.Common.{get_or, refl, ap}
use Rattle.lp_cert.specs.Waiters.{no_head}
use Rattle.lp_cert.proofs.StillStanding.{still_standing}
use Rattle.lp_cert.proofs.waiters.Waiters.reserve.Goals as goal

pub invariant_of-self : goal.invariant_of-self
invariant_of-self c =
    let i = c.self.inside in
    still_standing (record { groups = i.groups; reasons = i.reasons }) (record { groups = i.groups; reasons = c.reserve.new.self }) c.self.invariant refl (λ g. ap (λ hs. get_or hs g no_head) c.reserve.ensures.heads) c.reserve.ensures.lists c.reserve.ensures.scans
