-- What a run reads, and where its fault came.
use Rattle.std.specs.Prelude.{List, ℕ, Option}
use Rattle.lp_text.specs.declared.fault.TraceFault.{TraceFault}
use Rattle.lp_text.specs.declared.stream_fault.StreamFault.{StreamFault}
use Rattle.lp_text.specs.declared.stream_fault.StreamFault.TheVariants as stream
use Rattle.lp_replay.specs.declared.run_fault.RunFault.{RunFault}
use Rattle.lp_replay.specs.declared.run_fault.RunFault.TheVariants as run
use Rattle.lp_text.specs.Input.{ReadsAll}
use Rattle.lp_text.specs.StreamContract.{Ending, ReadFailed, WriteFailed, OtherFault}
use Rattle.lp_text.specs.Traces.{TraceValue, IsTrace, text_of}

-- a reader gave the spelling of a trace of which this holds, and nothing is left
abbrev pub ReadsTrace : Option (List ℕ) → Option (List ℕ) → (TraceValue → Type 0) → Type 0
ReadsTrace old new P = (trace : TraceValue) × IsTrace trace × ReadsAll old new (text_of trace) × P trace

-- this holds of the fault of a text
abbrev pub AtTrace : RunFault → (TraceFault → Type 0) → Type 0
AtTrace (run.Trace fault) P = P fault
AtTrace (run.Read error) P = Unit {0}
AtTrace run.NoMemory P = Unit {0}
AtTrace (run.Write fault) P = Unit {0}

-- how a call ended for its streams by a fault of a run
abbrev pub run_end : RunFault → Ending
run_end (run.Read error) = ReadFailed
run_end (run.Trace fault) = OtherFault
run_end run.NoMemory = OtherFault
run_end (run.Write fault) = WriteFailed

-- a fault in reading, as a fault of a run
abbrev pub of_stream : StreamFault → RunFault
of_stream (stream.Read error) = run.Read error
of_stream (stream.Trace fault) = run.Trace fault
of_stream stream.NoMemory = run.NoMemory
