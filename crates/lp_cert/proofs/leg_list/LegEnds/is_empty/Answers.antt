use Rattle.std.proofs.Common.{arith}
use Rattle.std.proofs.lemmas.Grind.{common_steps}
use Rattle.lp_cert.proofs.LegRows.{none_left}
use Rattle.lp_cert.proofs.leg_list.LegEnds.is_empty.Goals as goal

pub returns : goal.returns
returns c =
    let both = none_left c.args.self.now.rows.now.ends c.len.result c.args.self.now.passed c.len.ensures in
    grind (arith, common_steps, both)
