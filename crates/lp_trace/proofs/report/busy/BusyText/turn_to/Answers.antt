use Rattle.lp_trace.proofs.Busy.{busy_text}
use Rattle.lp_trace.proofs.report.busy.BusyText.turn_to.Goals as goal

pub invariant_of-self : goal.invariant_of-self
invariant_of-self c = busy_text c.args.group c.args.task _ c.set_ids.ensures
