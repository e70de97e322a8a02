use Rattle.std.proofs.Common.{arith}
use Rattle.std.proofs.lemmas.Grind.{common_steps}
use Rattle.lp_cert.proofs.leg_rows.LegRows.end.Goals as goal

pub overflow_cast-row : goal.overflow_cast-row
overflow_cast-row c = grind (arith, common_steps)

pub index-requires-then-eq : goal.index-requires-then-eq
index-requires-then-eq c = grind (arith, common_steps)

pub borrowed-requires-2-clause-within : goal.borrowed-requires-2-clause-within
borrowed-requires-2-clause-within c = grind (arith, common_steps)
