use Rattle.lp_trace.proofs.KeptLines.{none_kept}
use Rattle.lp_trace.proofs.report.kept_lines.KeptLines.new.Goals as goal

pub returns : goal.returns
returns c = none_kept _ _ c.in_ok-starts.ensures.items c.in_ok-text.ensures
