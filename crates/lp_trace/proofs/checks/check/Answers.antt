use Rattle.lp_text.specs.StreamContract.{WriteFailed}
use Rattle.lp_text.proofs.StreamContract.{done≢write_failed, ended_unlike, reads_before, reads_by, writes_nothing}
use Rattle.lp_replay.specs.Runs.{run_end}
use Rattle.lp_replay.proofs.RunFaults.{no_text}
use Rattle.lp_trace.proofs.checks.check.Goals as goal

-- the reading ended by a fault

pub returns-in_err-input-clause-prefix : goal.returns-in_err-input-clause-prefix
returns-in_err-input-clause-prefix g c = λ e.
    absurd (ended_unlike run_end c.in_err-input.field-0.0 c.from_residual.result c.from_residual.ensures.1 WriteFailed c.in_err-input.ensures.early e)

pub returns-in_err-input-clause-reads : goal.returns-in_err-input-clause-reads
returns-in_err-input-clause-reads g c =
    reads_by run_end c.in_err-input.field-0.0 c.from_residual.result c.from_residual.ensures.1 c.args.reader.now c.read_check.new.reader c.in_err-input.ensures.reads

pub returns-in_err-input-clause-writes : goal.returns-in_err-input-clause-writes
returns-in_err-input-clause-writes g c =
    writes_nothing c.args.writer.now _ (ended_unlike run_end c.in_err-input.field-0.0 c.from_residual.result c.from_residual.ensures.1 WriteFailed c.in_err-input.ensures.early)

-- the answer was written

pub returns-in-Ok-clause-sound : goal.returns-in-Ok-clause-sound
returns-in-Ok-clause-sound g c = λ accepted.
    (c.in_ok-input.input, c.in_ok-input.ensures.found.0, c.in_ok-input.ensures.found.1, c.in-Ok.ensures.sound accepted)

pub returns-in-Ok-clause-prefix : goal.returns-in-Ok-clause-prefix
returns-in-Ok-clause-prefix g c = λ e. absurd (done≢write_failed e)

pub returns-in-Ok-clause-reads : goal.returns-in-Ok-clause-reads
returns-in-Ok-clause-reads g c = c.in_ok-input.ensures.reads

pub returns-in-Ok-clause-writes : goal.returns-in-Ok-clause-writes
returns-in-Ok-clause-writes g c = c.in-Ok.ensures.writes

-- the answer was not written, or not all of it

pub returns-clause-prefix : goal.returns-clause-prefix
returns-clause-prefix g c = λ e.
    (c.in_ok-input.input, c.in_ok-input.ensures.found.0, c.in_ok-input.ensures.found.1, c.in-Err.ensures.prefix e)

pub returns-clause-trace : goal.returns-clause-trace
returns-clause-trace g c = no_text c.in-Err.fault _ c.in-Err.ensures.late

pub returns-clause-reads : goal.returns-clause-reads
returns-clause-reads g c = reads_before c.args.reader.now c.read_check.new.reader (run_end c.in-Err.fault) c.in-Err.ensures.not_reading c.in_ok-input.ensures.reads

pub returns-clause-writes : goal.returns-clause-writes
returns-clause-writes g c = c.in-Err.ensures.writes
