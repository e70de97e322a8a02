use Rattle.std.proofs.Common.{arith}
use Rattle.std.proofs.lemmas.Grind.{common_steps}
use Rattle.lp_checker.proofs.marks.mark_lines.Goals as goal

pub mark_by-requires-clause-looks : goal.mark_by-requires-clause-looks
mark_by-requires-clause-looks c = grind (arith, common_steps)
