use Rattle.std.proofs.Common.{◌∙◌, subst}
use Rattle.std.specs.Io.KnownBytes.{Appends}
use Rattle.lp_replay.specs.declared.run_fault.RunFault.TheVariants.{NoMemory, Write}
use Rattle.lp_text.specs.StreamContract.{ReadFailed, WriteFailed}
use Rattle.lp_text.specs.Writing.{AppendsPrefix}
use Rattle.lp_text.proofs.StreamContract.{done≢read_failed, done≢write_failed, ended_unlike, other≢read_failed, other≢write_failed, write_failed≢read_failed, writes_by, writes_nothing}
use Rattle.lp_threads.specs.Faults.{threads_end}
use Rattle.lp_threads.specs.declared.fault.ThreadsFault.TheVariants.{Run}
use Rattle.lp_threads.proofs.report.write_play.Goals as goal

-- an allocation failed

pub returns-in_err-text-clause-prefix : goal.returns-in_err-text-clause-prefix
returns-in_err-text-clause-prefix g c = λ e.
    absurd (ended_unlike threads_end (Run NoMemory) c.from_residual.result c.from_residual.ensures.1 WriteFailed other≢write_failed e)

pub returns-in_err-text-clause-writes : goal.returns-in_err-text-clause-writes
returns-in_err-text-clause-writes g c =
    writes_nothing c.args.writer.now _ (ended_unlike threads_end (Run NoMemory) c.from_residual.result c.from_residual.ensures.1 WriteFailed other≢write_failed)

pub returns-in_err-text-clause-not_reading : goal.returns-in_err-text-clause-not_reading
returns-in_err-text-clause-not_reading g c =
    ended_unlike threads_end (Run NoMemory) c.from_residual.result c.from_residual.ensures.1 ReadFailed other≢read_failed

-- the writer failed

pub returns-in_err-put-clause-prefix : goal.returns-in_err-put-clause-prefix
returns-in_err-put-clause-prefix g c = λ e.
    subst (λ bytes. AppendsPrefix (g.W.Write.contents c.args.writer.now.stream) (g.W.Write.contents c.put.new.writer.stream) bytes)
    (c.as_bytes.ensures.value ∙ c.in_ok-text.ensures) c.in_err-put.ensures.written

pub returns-in_err-put-clause-writes : goal.returns-in_err-put-clause-writes
returns-in_err-put-clause-writes g c =
    writes_by threads_end (Run (Write c.in_err-put.field-0.0)) c.from_residual-in_err-put.result c.from_residual-in_err-put.ensures.1 c.args.writer.now c.put.new.writer c.in_err-put.ensures.writes

pub returns-in_err-put-clause-not_reading : goal.returns-in_err-put-clause-not_reading
returns-in_err-put-clause-not_reading g c =
    ended_unlike threads_end (Run (Write c.in_err-put.field-0.0)) c.from_residual-in_err-put.result c.from_residual-in_err-put.ensures.1 ReadFailed write_failed≢read_failed

-- the report was written

pub returns-clause-report : goal.returns-clause-report
returns-clause-report g c =
    subst (λ bytes. Appends (g.W.Write.contents c.args.writer.now.stream) (g.W.Write.contents c.put.new.writer.stream) bytes)
    (c.as_bytes.ensures.value ∙ c.in_ok-text.ensures) c.in_ok-put.ensures.written

pub returns-clause-prefix : goal.returns-clause-prefix
returns-clause-prefix g c = λ e. absurd (done≢write_failed e)

pub returns-clause-writes : goal.returns-clause-writes
returns-clause-writes g c = c.in_ok-put.ensures.writes

pub returns-clause-not_reading : goal.returns-clause-not_reading
returns-clause-not_reading g c = done≢read_failed
