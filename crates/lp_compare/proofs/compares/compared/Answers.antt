use Rattle.std.proofs.Common.{◌∙◌}
use Rattle.lp_compare.proofs.FirstLegs.{compared}
use Rattle.lp_compare.proofs.compares.compared.Goals as goal

pub returns-clause-comparison : goal.returns-clause-comparison
returns-clause-comparison c =
    compared c.args.trace.now c.opened.result c.from_vec.result c.all.result c.in_ok-hybrid.hybrid
    c.opened.ensures c.in_ok-hybrid.ensures c.all.ensures (c.from_vec.ensures ∙ c.in_ok-rows.ensures)
