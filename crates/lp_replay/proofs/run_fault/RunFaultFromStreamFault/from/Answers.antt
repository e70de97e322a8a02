use Rattle.std.proofs.Common.{sym, ap}
use Rattle.lp_replay.specs.Runs.{of_stream}
use Rattle.lp_replay.proofs.run_fault.RunFaultFromStreamFault.from.Goals as goal

pub returns-in-Trace : goal.returns-in-Trace
returns-in-Trace c = ap of_stream (sym c.in-Trace.is)
