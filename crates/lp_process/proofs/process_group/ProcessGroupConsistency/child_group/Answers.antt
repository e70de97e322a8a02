use Rattle.std.proofs.Common.{sym, ap}
use Rattle.lp_process.specs.Models.{group_by_fork}
use Rattle.lp_process.proofs.process_group.ProcessGroupConsistency.child_group.Goals as goal

pub returns-in-Share : goal.returns-in-Share
returns-in-Share c = ap (group_by_fork c.args.group.0 c.args.child.0) (sym c.in-Share.is)
