use Rattle.std.proofs.Common.{rules}
use Rattle.lp_models.proofs.leave_kernel.LeaveKernelConsistency.blame.Goals as goal

pub returns-then-not-uses : goal.returns-then-not-uses
returns-then-not-uses c = search rules
