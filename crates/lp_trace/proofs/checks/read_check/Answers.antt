use Rattle.std.proofs.Common.{◌≡◌, IfSome, Err}
use Rattle.lp_text.specs.CheckReading.{check_reading}
use Rattle.lp_text.proofs.StreamContract.{done≢write_failed}
use Rattle.lp_replay.proofs.RunFaults.{reads_as, stream_fault_of, unwritten}
use Rattle.lp_trace.proofs.checks.read_check.Goals as goal

pub returns-in_err-input-clause-trace : goal.returns-in_err-input-clause-trace
returns-in_err-input-clause-trace g c =
    stream_fault_of (λ why. IfSome (g.R.Read.remaining c.args.reader.now.stream) (λ text. check_reading text ≡ Err why)) c.in_err-input.field-0.0 c.from_residual.result c.in_err-input.ensures.trace c.from_residual.ensures.1

pub returns-in_err-input-clause-reads : goal.returns-in_err-input-clause-reads
returns-in_err-input-clause-reads g c =
    reads_as c.in_err-input.field-0.0 c.from_residual.result c.from_residual.ensures.1 c.args.reader.now c.read_from.new.reader c.in_err-input.ensures.reads

pub returns-in_err-input-clause-early : goal.returns-in_err-input-clause-early
returns-in_err-input-clause-early g c = unwritten c.in_err-input.field-0.0 c.from_residual.result c.from_residual.ensures.1

pub returns-clause-reads : goal.returns-clause-reads
returns-clause-reads g c = c.in_ok-input.ensures.reads

pub returns-clause-early : goal.returns-clause-early
returns-clause-early g c = done≢write_failed
