use Rattle.std.proofs.Common.{arith}
use Rattle.lp_trace.proofs.KeptLines.{more_kept, pushed}
use Rattle.lp_trace.proofs.report.kept_lines.KeptLines.push.Goals as goal

pub returns-clause-taken : goal.returns-clause-taken
returns-clause-taken c = λ done lines kept.
    more_kept lines c.args.line.now c.args.self.now.starts.items _ c.args.self.now.text.items _ c.len-start.result kept c.len-start.ensures (c.hold_line.ensures.taken c.if-not-hold_line.false) (pushed c.push.result _ _ _ _ _ c.push.ensures.items c.push.ensures.full (omega arith))
