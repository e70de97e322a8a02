use Rattle.lp_trace.proofs.KeptLines.{none_kept}
use Rattle.lp_trace.proofs.report.kept_lines.KeptLines.clear.Goals as goal

pub returns-clause-none : goal.returns-clause-none
returns-clause-none c = none_kept _ _ c.clear.ensures.items c.clear-2.ensures
