use Rattle.std.proofs.Common.{◌<◌, ◌≤◌, length, sym, ◌∙◌, arith}
use Rattle.std.proofs.Math.ListN.{get_or-eq_default}
use Rattle.lp_checker.proofs.fold.table.FoldedTable.members.Goals as goal

pub returns-else-place-len-clause-value : goal.returns-else-place-len-clause-value
returns-else-place-len-clause-value c =
    let members = c.self.inside.members.items in
    let past : length members ≤ c.args.group.0 = omega arith in
    let small : c.args.group.0 < 65536 = omega arith in
    rw (← c.self.view_is) (sym (get_or-eq_default members 0 past) ∙ c.self.invariant.counted.counted c.args.group.0 small)
