use Rattle.std.proofs.lemmas.Result.{IfErr-weaker}
use Rattle.lp_text.specs.StreamContract.{WriteFailed, ended}
use Rattle.lp_text.proofs.StreamContract.{ended_unlike, reads_before, reads_by, writes_nothing}
use Rattle.lp_threads.specs.Faults.{threads_end}
use Rattle.lp_threads.specs.declared.fault.ThreadsFault.TheVariants.{Run}
use Rattle.lp_threads.proofs.Faults.{at_desk, play_unread, play_unwritten}
use Rattle.lp_threads.proofs.playing.threads.Goals as goal

-- the reading ended by a fault

pub returns-in_err-trace-clause-prefix : goal.returns-in_err-trace-clause-prefix
returns-in_err-trace-clause-prefix g c = λ e.
    absurd (ended_unlike threads_end (Run c.in_err-trace.field-0.0) c.from_residual.result c.from_residual.ensures.1 WriteFailed c.in_err-trace.ensures.early e)

pub returns-in_err-trace-clause-reads : goal.returns-in_err-trace-clause-reads
returns-in_err-trace-clause-reads g c =
    reads_by threads_end (Run c.in_err-trace.field-0.0) c.from_residual.result c.from_residual.ensures.1 c.args.reader.now c.read_trace.new.reader c.in_err-trace.ensures.reads

pub returns-in_err-trace-clause-writes : goal.returns-in_err-trace-clause-writes
returns-in_err-trace-clause-writes g c =
    writes_nothing c.args.writer.now _ (ended_unlike threads_end (Run c.in_err-trace.field-0.0) c.from_residual.result c.from_residual.ensures.1 WriteFailed c.in_err-trace.ensures.early)

-- the play ended by a fault

pub returns-in_err-play-clause-prefix : goal.returns-in_err-play-clause-prefix
returns-in_err-play-clause-prefix g c = λ e.
    let fault = c.in_err-play.field-0.0 in
    absurd (ended_unlike threads_end fault c.from_residual-in_err-play.result c.from_residual-in_err-play.ensures.1 WriteFailed (play_unwritten fault c.in_err-play.ensures.fault) e)

pub returns-in_err-play-clause-reads : goal.returns-in_err-play-clause-reads
returns-in_err-play-clause-reads g c =
    let fault = c.in_err-play.field-0.0 in
    reads_by threads_end fault c.from_residual-in_err-play.result c.from_residual-in_err-play.ensures.1 c.args.reader.now c.read_trace.new.reader
    (reads_before c.args.reader.now c.read_trace.new.reader (threads_end fault) (play_unread fault c.in_err-play.ensures.fault) c.in_ok-trace.ensures.reads)

pub returns-in_err-play-clause-writes : goal.returns-in_err-play-clause-writes
returns-in_err-play-clause-writes g c =
    let fault = c.in_err-play.field-0.0 in
    writes_nothing c.args.writer.now _ (ended_unlike threads_end fault c.from_residual-in_err-play.result c.from_residual-in_err-play.ensures.1 WriteFailed (play_unwritten fault c.in_err-play.ensures.fault))

-- the report is written after the play, where no fault is the desk's

pub returns-clause-desk : goal.returns-clause-desk
returns-clause-desk g c = IfErr-weaker c.write_play.result _ _ (λ fault none. at_desk fault ⊥ _ (λ no. absurd no) none) c.write_play.ensures.desk

pub returns-clause-prefix : goal.returns-clause-prefix
returns-clause-prefix g c = λ e.
    let read = c.in_ok-trace.ensures.found in
    (c.in_ok-trace.trace, read.0, read.1, (c.in_ok-play.play, c.in_ok-play.ensures.play, c.write_play.ensures.prefix e))

pub returns-clause-reads : goal.returns-clause-reads
returns-clause-reads g c =
    reads_before c.args.reader.now c.read_trace.new.reader (ended threads_end c.write_play.result) c.write_play.ensures.not_reading c.in_ok-trace.ensures.reads

pub returns-clause-writes : goal.returns-clause-writes
returns-clause-writes g c = c.write_play.ensures.writes
