use Rattle.lp_text.specs.StreamContract.{WriteFailed}
use Rattle.lp_text.proofs.StreamContract.{done≢write_failed, ended_unlike, reads_before, reads_by, writes_nothing}
use Rattle.lp_replay.specs.Runs.{run_end}
use Rattle.lp_replay.proofs.RunFaults.{no_text}
use Rattle.lp_trace.proofs.RunOutcomes.{headline_of_text}
use Rattle.lp_trace.proofs.runs.run.Goals as goal

-- the reading ended by a fault

pub returns-in_err-trace-clause-prefix : goal.returns-in_err-trace-clause-prefix
returns-in_err-trace-clause-prefix g c = λ e.
    absurd (ended_unlike run_end c.in_err-trace.field-0.0 c.from_residual.result c.from_residual.ensures.1 WriteFailed c.in_err-trace.ensures.early e)

pub returns-in_err-trace-clause-reads : goal.returns-in_err-trace-clause-reads
returns-in_err-trace-clause-reads g c =
    reads_by run_end c.in_err-trace.field-0.0 c.from_residual.result c.from_residual.ensures.1 c.args.reader.now c.read_trace.new.reader c.in_err-trace.ensures.reads

pub returns-in_err-trace-clause-writes : goal.returns-in_err-trace-clause-writes
returns-in_err-trace-clause-writes g c =
    writes_nothing c.args.writer.now _ (ended_unlike run_end c.in_err-trace.field-0.0 c.from_residual.result c.from_residual.ensures.1 WriteFailed c.in_err-trace.ensures.early)

-- the report was written

pub returns-in-Ok-clause-report : goal.returns-in-Ok-clause-report
returns-in-Ok-clause-report g c =
    let read = c.in_ok-trace.ensures.found in
    (c.in_ok-trace.trace, read.0, read.1, c.in-Ok.ensures.report)

pub returns-in-Ok-clause-headline : goal.returns-in-Ok-clause-headline
returns-in-Ok-clause-headline g c =
    let read = c.in_ok-trace.ensures.found in
    headline_of_text g.M.Consistency.rules g.met.M.Consistency.lawful _ _ c.in_ok-trace.trace _ read.0 read.1 c.in-Ok.ensures.report

pub returns-in-Ok-clause-prefix : goal.returns-in-Ok-clause-prefix
returns-in-Ok-clause-prefix g c = λ e. absurd (done≢write_failed e)

pub returns-in-Ok-clause-reads : goal.returns-in-Ok-clause-reads
returns-in-Ok-clause-reads g c = c.in_ok-trace.ensures.reads

pub returns-in-Ok-clause-writes : goal.returns-in-Ok-clause-writes
returns-in-Ok-clause-writes g c = c.in-Ok.ensures.writes

-- the report was not written, or not all of it

pub returns-clause-prefix : goal.returns-clause-prefix
returns-clause-prefix g c = λ e.
    let read = c.in_ok-trace.ensures.found in
    (c.in_ok-trace.trace, read.0, read.1, c.in-Err.ensures.prefix e)

pub returns-clause-trace : goal.returns-clause-trace
returns-clause-trace g c = no_text c.in-Err.fault _ c.in-Err.ensures.late

pub returns-clause-reads : goal.returns-clause-reads
returns-clause-reads g c = reads_before c.args.reader.now c.read_trace.new.reader (run_end c.in-Err.fault) c.in-Err.ensures.not_reading c.in_ok-trace.ensures.reads

pub returns-clause-writes : goal.returns-clause-writes
returns-clause-writes g c = c.in-Err.ensures.writes
