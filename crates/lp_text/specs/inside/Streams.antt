-- Reading a text that comes in pieces: what came so far, what all comes to with the bytes that follow, and its faults.
use Rattle.std.specs.Prelude.{◌≡◌, ℕ, Bool, ◌+◌, ◌<◌, ◌==◌, List, ◌++◌, length, count_by, Option, None, Some, Result}
use Rattle.std.specs.Io.KnownBytes.{Consumes}
use Rattle.lp_text.specs.Counts.{Counts, FailsOnce, next}
use Rattle.lp_text.specs.declared.fault.Cause.TheVariants as cause
use Rattle.lp_text.specs.declared.input.InputFault.{InputFault}
use Rattle.lp_text.specs.declared.input.InputFault.TheVariants as input
use Rattle.lp_text.specs.declared.stream_fault.StreamFault.{StreamFault}
use Rattle.lp_text.specs.declared.stream_fault.StreamFault.TheVariants as stream
use Rattle.lp_text.specs.declared.fault.TraceFault.{TraceFault}
use Rattle.lp_text.specs.StreamContract.{Ending, stream_end}
use Rattle.lp_text.specs.Traces.{TraceValue}
use Rattle.lp_text.specs.Words.{lines}
use Rattle.lp_text.specs.Reading.{reading_from, reading_lines}

-- what the whole lines have given, once the first one came; the number of the next line; and what came of it
pub record Stream : Type 0 where
  pub parser : Option TraceValue
  pub number : ℕ
  pub held : List ℕ

-- the end of a line
abbrev pub is_end : ℕ → Bool
is_end byte = byte == 10

-- bytes among which no line ends
abbrev pub IsUnbroken : List ℕ → Type 0
IsUnbroken bytes = count_by is_end bytes ≡ 0

-- where the lines from here on are these
abbrev pub reading_on : Option TraceValue → ℕ → List (List ℕ) → Result TraceValue TraceFault
reading_on None number rest = reading_lines rest
reading_on (Some so_far) number rest = reading_from number so_far rest

-- where these bytes follow
abbrev pub reading_after : Stream → List ℕ → Result TraceValue TraceFault
reading_after came bytes = reading_on came.parser came.number (lines (came.held ++ bytes))

-- ---- Faults

-- a reader gave more bytes than a text may have, of which so many came before
abbrev pub ReadsTooMuchAfter : ℕ → Option (List ℕ) → Option (List ℕ) → Type 0
ReadsTooMuchAfter before old new = (bytes : List ℕ) × Consumes old new bytes × (134217728 < before + length bytes)

abbrev pub ReadsTooMuch : Option (List ℕ) → Option (List ℕ) → Type 0
ReadsTooMuch old new = ReadsTooMuchAfter 0 old new

-- after so many bytes an input is too long only where the reader gave too much
abbrev pub IsFaultAfter : ℕ → Option (List ℕ) → Option (List ℕ) → InputFault → Type 0
IsFaultAfter before old new input.Long = ReadsTooMuchAfter before old new
IsFaultAfter before old new (input.Failed error) = Unit {0}
IsFaultAfter before old new input.NoMemory = Unit {0}

-- an input is too long only where the reader gave too much
abbrev pub IsInputFault : Option (List ℕ) → Option (List ℕ) → InputFault → Type 0
IsInputFault old new fault = IsFaultAfter 0 old new fault

-- a fault in reading, as a fault of a stream
abbrev pub of_input : InputFault → StreamFault
of_input (input.Failed error) = stream.Read error
of_input input.Long = stream.Trace (record { line = 0; cause = cause.Long })
of_input input.NoMemory = stream.NoMemory

-- how the reading of an input ended
abbrev pub input_end : InputFault → Ending
input_end fault = stream_end (of_input fault)

-- ---- Reads

module _ {S : Type 0} where
  -- every read so far gave bytes
  abbrev pub Going : Counts S → Counts S → Type 0
  Going old new = (new.failures ≡ old.failures) × (new.ends ≡ old.ends)

  -- no read failed, and one found the end
  abbrev pub Ended : Counts S → Counts S → Type 0
  Ended old new = (new.failures ≡ old.failures) × (new.ends ≡ next old.ends)

  -- a read gave so many bytes
  abbrev pub Gave : Counts S → Counts S → ℕ → Type 0
  Gave old new count = (0 < count → Going old new) × (count ≡ 0 → Ended old new)

  -- what was read by the fault of an input
  abbrev pub InputFails : Counts S → Counts S → InputFault → Type 0
  InputFails old new (input.Failed error) = FailsOnce old new
  InputFails old new input.Long = new.failures ≡ old.failures
  InputFails old new input.NoMemory = new.failures ≡ old.failures
