use Rattle.std.proofs.Common.{◌++◌, drop, map}
use Rattle.lp_definitions.specs.declared.line.Line.TheVariants.{Busy}
use Rattle.lp_cert.specs.Parts.{busy_scan_lines}
use Rattle.lp_text.specs.inside.Writing.{Left, seen_of}
use Rattle.lp_trace.specs.inside.KeptLines.{text_of}
use Rattle.lp_trace.proofs.report.reasons.put_scans.Given as goal

-- the lines of the scans that are left
abbrev pub invariant-loop-scan : goal.invariant-loop-scan
invariant-loop-scan g l =
    Left (seen_of g.W.Write.contents l.fn.writer) (seen_of g.W.Write.contents l.writer) (l.fn.page.held.items ++ text_of (busy_scan_lines l.fn.run)) (l.page.held.items ++ text_of (map (Busy l.fn.run.group l.fn.run.task) (drop l.scan-index l.fn.run.scans.now)))
