use Rattle.std.proofs.Common.{arith}
use Rattle.std.proofs.lemmas.Grind.{common_steps}
use Rattle.lp_text.proofs.StreamContract.{done≢read_failed, done≢write_failed, write_failed≢read_failed, writes_nothing}
use Rattle.lp_replay.proofs.RunFaults.{memory_unread, memory_unwritten}
use Rattle.lp_compare.proofs.runs.compare_on.Goals as goal

-- an allocation failed

pub returns-in_err-text-clause-prefix : goal.returns-in_err-text-clause-prefix
returns-in_err-text-clause-prefix g c = λ e. absurd (memory_unwritten c.from_residual.result c.from_residual.ensures.1 e)

pub returns-in_err-text-clause-writes : goal.returns-in_err-text-clause-writes
returns-in_err-text-clause-writes g c = writes_nothing c.args.writer.now _ (memory_unwritten c.from_residual.result c.from_residual.ensures.1)

pub returns-in_err-text-clause-not_reading : goal.returns-in_err-text-clause-not_reading
returns-in_err-text-clause-not_reading g c = memory_unread c.from_residual.result c.from_residual.ensures.1

-- the comparison was written

pub returns-in-Ok-clause-prefix : goal.returns-in-Ok-clause-prefix
returns-in-Ok-clause-prefix g c = λ e. absurd (done≢write_failed e)

pub returns-in-Ok-clause-writes : goal.returns-in-Ok-clause-writes
returns-in-Ok-clause-writes g c = c.in-Ok.ensures.writes

pub returns-in-Ok-clause-not_reading : goal.returns-in-Ok-clause-not_reading
returns-in-Ok-clause-not_reading g c = done≢read_failed

-- the writer failed

pub returns-clause-prefix : goal.returns-clause-prefix
returns-clause-prefix g c = λ e. grind (arith, common_steps)

pub returns-clause-writes : goal.returns-clause-writes
returns-clause-writes g c = c.in-Err.ensures.writes

pub returns-clause-not_reading : goal.returns-clause-not_reading
returns-clause-not_reading g c = write_failed≢read_failed
