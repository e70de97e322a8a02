-- The stream contract of calls that end by several faults, or that call others.
use Rattle.std.proofs.Common.{◌≡◌, ◌≢◌, ◌∙◌, Result, Ok, Err, refl, sym, ap, subst}
use Rattle.std.specs.Prelude.{IsErrAnd}
use Rattle.lp_text.specs.Counts.{AtMost, Counts, FailsOnce, next}
use Rattle.lp_text.specs.StreamContract.{Ending, Done, ReadFailed, WriteFailed, OtherFault, ReadsToEnd, WritesToEnd, ended, stream_end}
use Rattle.lp_text.specs.Input.{of_read}
use Rattle.lp_text.specs.declared.fault.ReadFault.{ReadFault}
use Rattle.lp_text.specs.declared.fault.ReadFault.TheVariants as read
use Rattle.lp_text.specs.declared.input.InputFault.{InputFault}
use Rattle.lp_text.specs.declared.input.InputFault.TheVariants as input
use Rattle.lp_text.specs.declared.stream_fault.StreamFault.{StreamFault}
use Rattle.lp_text.specs.declared.stream_fault.StreamFault.TheVariants as stream
use Rattle.lp_text.specs.inside.Streams.{Ended, InputFails, input_end, of_input}
use Rattle.lp_text.proofs.Counts.{none_called}

-- ---- No two endings are the same

abbrev IsDone : Ending → Type 0
IsDone Done = Unit {0}
IsDone ReadFailed = ⊥
IsDone WriteFailed = ⊥
IsDone OtherFault = ⊥

abbrev IsReadFailed : Ending → Type 0
IsReadFailed Done = ⊥
IsReadFailed ReadFailed = Unit {0}
IsReadFailed WriteFailed = ⊥
IsReadFailed OtherFault = ⊥

abbrev IsOther : Ending → Type 0
IsOther Done = ⊥
IsOther ReadFailed = ⊥
IsOther WriteFailed = ⊥
IsOther OtherFault = Unit {0}

pub done≢read_failed : Done ≢ ReadFailed
done≢read_failed e = subst IsDone e tt

pub done≢write_failed : Done ≢ WriteFailed
done≢write_failed e = subst IsDone e tt

read_failed≢done : ReadFailed ≢ Done
read_failed≢done e = subst IsDone (sym e) tt

write_failed≢done : WriteFailed ≢ Done
write_failed≢done e = subst IsDone (sym e) tt

pub read_failed≢write_failed : ReadFailed ≢ WriteFailed
read_failed≢write_failed e = subst IsReadFailed e tt

pub write_failed≢read_failed : WriteFailed ≢ ReadFailed
write_failed≢read_failed e = subst IsReadFailed (sym e) tt

pub other≢done : OtherFault ≢ Done
other≢done e = subst IsDone (sym e) tt

pub other≢read_failed : OtherFault ≢ ReadFailed
other≢read_failed e = subst IsOther e tt

pub other≢write_failed : OtherFault ≢ WriteFailed
other≢write_failed e = subst IsOther e tt

-- no fault in reading is one of the writer
pub stream_unwritten : (fault : StreamFault) → stream_end fault ≢ WriteFailed
stream_unwritten (stream.Read error) = read_failed≢write_failed
stream_unwritten (stream.Trace fault) = other≢write_failed
stream_unwritten stream.NoMemory = other≢write_failed

text_ends : (fault : ReadFault) → stream_end (of_read fault) ≡ OtherFault
text_ends (read.Trace fault) = refl
text_ends read.NoMemory = refl

-- ---- What was read

module _ {S : Type 0} (a b : Counts S) where
  pub reads_done : Ended a b → AtMost 134217729 a.calls b.calls → ReadsToEnd Done a b
  reads_done ends few =
      record { read_failed = λ e. absurd (done≢read_failed e); unfailed = λ differs. ends.0; once = λ e. ends.1; few = few }

  reads_failed : FailsOnce a b → AtMost 134217729 a.calls b.calls → ReadsToEnd ReadFailed a b
  reads_failed fails few =
      record { read_failed = λ e. fails; unfailed = λ differs. absurd (differs refl); once = λ e. absurd (read_failed≢done e); few = few }

  pub reads_other : b.failures ≡ a.failures → AtMost 134217729 a.calls b.calls → ReadsToEnd OtherFault a b
  reads_other unfailed few =
      record { read_failed = λ e. absurd (other≢read_failed e); unfailed = λ differs. unfailed; once = λ e. absurd (other≢done e); few = few }

  pub reads_input : (fault : InputFault) → InputFails a b fault → AtMost 134217729 a.calls b.calls → ReadsToEnd (input_end fault) a b
  reads_input (input.Failed error) h few = reads_failed h few
  reads_input input.Long h few = reads_other h few
  reads_input input.NoMemory h few = reads_other h few

  -- a fault of an input, as one of the reader that has it
  pub input_told : (fault : InputFault) (e : StreamFault) → ReadsToEnd (input_end fault) a b → e ≡ of_input fault → ReadsToEnd (stream_end e) a b
  input_told fault e h is = subst (λ ending. ReadsToEnd ending a b) (sym (ap stream_end is)) h

  -- and a fault of its text
  pub text_told : (fault : ReadFault) (e : StreamFault) → b.failures ≡ a.failures → AtMost 134217729 a.calls b.calls → e ≡ of_read fault → ReadsToEnd (stream_end e) a b
  text_told fault e unfailed few is = subst (λ ending. ReadsToEnd ending a b) (sym (ap stream_end is ∙ text_ends fault)) (reads_other unfailed few)

  -- after the reading nothing is read
  pub reads_before : (ending : Ending) → ending ≢ ReadFailed → ReadsToEnd Done a b → ReadsToEnd ending a b
  reads_before ending differs h =
      record { read_failed = λ e. absurd (differs e); unfailed = λ not. h.unfailed done≢read_failed; once = λ e. h.once refl; few = h.few }

-- nothing was read
pub reads_nothing : {S : Type 0} (a : Counts S) (ending : Ending) → ending ≢ ReadFailed → ending ≢ Done → ReadsToEnd ending a a
reads_nothing a ending differs faulty =
    record { read_failed = λ e. absurd (differs e); unfailed = λ not. refl; once = λ e. absurd (faulty e); few = none_called 134217729 a.calls }

-- ---- What was written

module _ {S : Type 0} (a b : Counts S) where
  pub writes_done : b.failures ≡ a.failures → WritesToEnd Done a b
  writes_done unfailed =
      record { write_failed = λ e. absurd (done≢write_failed e); written = λ e. unfailed; untouched = λ differs faulty. absurd (faulty refl) }

  pub writes_failed : b.failures ≡ next a.failures → WritesToEnd WriteFailed a b
  writes_failed failed =
      record { write_failed = λ e. failed; written = λ e. absurd (write_failed≢done e); untouched = λ differs faulty. absurd (differs refl) }

-- nothing was written
pub writes_nothing : {S : Type 0} (a : Counts S) (ending : Ending) → ending ≢ WriteFailed → WritesToEnd ending a a
writes_nothing a ending differs =
    record { write_failed = λ e. absurd (differs e); written = λ e. refl; untouched = λ not faulty. refl }

-- ---- The fault of a call, as it is returned

pub ended_by : {X E : Type 0} (fault_end : E → Ending) (fault : E) (r : Result X E) → IsErrAnd r (λ e. e ≡ fault) → ended fault_end r ≡ fault_end fault
ended_by fault_end fault (Ok x) is = absurd is
ended_by fault_end fault (Err e) is = ap fault_end is

module _ {X E : Type 0} (fault_end : E → Ending) (fault : E) (r : Result X E) (is : IsErrAnd r (λ e. e ≡ fault)) where
  pub reads_by : {S : Type 0} (a b : Counts S) → ReadsToEnd (fault_end fault) a b → ReadsToEnd (ended fault_end r) a b
  reads_by a b h = subst (λ ending. ReadsToEnd ending a b) (sym (ended_by fault_end fault r is)) h

  pub writes_by : {S : Type 0} (a b : Counts S) → WritesToEnd (fault_end fault) a b → WritesToEnd (ended fault_end r) a b
  writes_by a b h = subst (λ ending. WritesToEnd ending a b) (sym (ended_by fault_end fault r is)) h

  pub ended_unlike : (other : Ending) → fault_end fault ≢ other → ended fault_end r ≢ other
  ended_unlike other differs e = differs (sym (ended_by fault_end fault r is) ∙ e)
