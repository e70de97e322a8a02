use Rattle.std.proofs.Common.{ap, ◌∙◌}
use Rattle.lp_cert.specs.inside.LegRows.{KeptEnds}
use Rattle.lp_cert.proofs.LegRows.{end_added}
use Rattle.lp_cert.proofs.leg_rows.LegRows.close_whole.Goals as goal

pub returns-clause-ends : goal.returns-clause-ends
returns-clause-ends c =
    let i = c.self.inside in
    rw (c.reserve.ensures.items, c.in_ok-push.ensures.items) (end_added i.groups.items i.others.items c.args.end i.rows.items c.self.invariant.each ∙ ap (λ (k : KeptEnds). k.ends) c.self.view_is)
