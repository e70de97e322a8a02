use Rattle.lp_trace.proofs.Busy.{busy_text}
use Rattle.lp_trace.proofs.report.busy.BusyText.none.Goals as goal

pub invariant_of-result : goal.invariant_of-result
invariant_of-result c = busy_text _ _ _ c.set_ids.ensures
