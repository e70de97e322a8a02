use Rattle.std.proofs.Common.{rules}
use Rattle.lp_trace.proofs.report.level_word.Goals as goal

pub returns-in-Single : goal.returns-in-Single
returns-in-Single c = search rules

pub returns-in-Single-2 : goal.returns-in-Single-2
returns-in-Single-2 c = search rules
