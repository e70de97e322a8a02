use Rattle.std.proofs.Common.{◌++◌}
use Rattle.std.specs.List.{flat_map}
use Rattle.lp_cert.specs.Ends.{ends_left}
use Rattle.lp_text.specs.Words.{line_of}
use Rattle.lp_trace.specs.Report.{leg_lines}
use Rattle.lp_text.specs.inside.Writing.{Left, seen_of}
use Rattle.lp_trace.proofs.report.legs.put_legs.Given as goal

abbrev pub invariant-loop-leg : goal.invariant-loop-leg
invariant-loop-leg g l =
    Left (seen_of g.W.Write.contents l.fn.writer) (seen_of g.W.Write.contents l.writer) (l.fn.page.held.items ++ flat_map line_of (flat_map (leg_lines l.fn.form) l.fn.legs)) (l.page.held.items ++ flat_map line_of (flat_map (leg_lines l.fn.form) (ends_left l.leg-iterator)))
