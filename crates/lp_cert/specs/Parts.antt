-- Lines that are listed as one.
use Rattle.std.specs.Prelude.{List, map}
use Rattle.lp_definitions.specs.declared.line.Line.{Line}
use Rattle.lp_definitions.specs.declared.line.Line.TheVariants as line
use Rattle.lp_cert.specs.declared.cert_lines.BusyScans.{BusyScans}

-- the lines of the scans at which a member is busy, in their order
abbrev pub busy_scan_lines : BusyScans → List Line
busy_scan_lines run = map (λ at. line.Busy run.group run.task at) run.scans.now
