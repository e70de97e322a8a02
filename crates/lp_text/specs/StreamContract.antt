-- The stream contract: what a call says of its reader and its writer, by how it ended. Each counts the calls that failed.
use Rattle.std.specs.Prelude.{◌≡◌, ◌≢◌, Result, Ok, Err}
use Rattle.lp_text.specs.Counts.{AtMost, Counts, FailsOnce, next}
use Rattle.lp_text.specs.declared.stream_fault.StreamFault.{StreamFault}
use Rattle.lp_text.specs.declared.stream_fault.StreamFault.TheVariants as stream
use Rattle.lp_text.specs.declared.write.WriteFault.{WriteFault}

-- ---- How a call ended

-- without a fault, as its reader or its writer failed, or by any other fault
pub data Ending : Type 0 where
  Done : Ending
  ReadFailed : Ending
  WriteFailed : Ending
  OtherFault : Ending

-- the ending of a result, by what each of its faults says
abbrev pub ended : {A E : Type 0} → (E → Ending) → Result A E → Ending
ended fault_end (Ok x) = Done
ended fault_end (Err fault) = fault_end fault

-- of a call that reads a text
abbrev pub stream_end : StreamFault → Ending
stream_end (stream.Read error) = ReadFailed
stream_end (stream.Trace fault) = OtherFault
stream_end stream.NoMemory = OtherFault

-- of a call that writes a text
abbrev pub write_end : WriteFault → Ending
write_end fault = WriteFailed

-- ---- The contract

-- a call reads what its reader has to the end, and not past it
pub record ReadsToEnd {S : Type 0} (ending : Ending) (old new : Counts S) : Type 0 where
  -- a fault of reading comes of a read that failed, which no other read follows
  pub read_failed : ending ≡ ReadFailed → FailsOnce old new
  -- else no read failed: one that failed is told before any other fault
  pub unfailed : ending ≢ ReadFailed → new.failures ≡ old.failures
  -- without a fault the end was found once: nothing is read after it
  pub once : ending ≡ Done → new.ends ≡ next old.ends
  -- each read but the last gives a byte at least
  pub few : AtMost 134217729 old.calls new.calls

-- a call writes after all else, and nothing after a write that failed
pub record WritesToEnd {S : Type 0} (ending : Ending) (old new : Counts S) : Type 0 where
  -- a fault of writing comes of a write that failed or took no byte, which no other write follows
  pub write_failed : ending ≡ WriteFailed → new.failures ≡ next old.failures
  -- without a fault no write failed
  pub written : ending ≡ Done → new.failures ≡ old.failures
  -- any other fault leaves the writer as it was
  pub untouched : ending ≢ WriteFailed → ending ≢ Done → new ≡ old
