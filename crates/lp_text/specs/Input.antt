-- What is read of a reader.
use Rattle.std.specs.Prelude.{ℕ, List, Option}
use Rattle.std.specs.Io.KnownBytes.{Consumes, IsAtEnd}
use Rattle.lp_text.specs.declared.fault.TraceFault.{TraceFault}
use Rattle.lp_text.specs.declared.fault.ReadFault.{ReadFault}
use Rattle.lp_text.specs.declared.fault.ReadFault.TheVariants as read
use Rattle.lp_text.specs.declared.stream_fault.StreamFault.{StreamFault}
use Rattle.lp_text.specs.declared.stream_fault.StreamFault.TheVariants as stream

-- a reader gave this text, and nothing is left
abbrev pub ReadsAll : Option (List ℕ) → Option (List ℕ) → List ℕ → Type 0
ReadsAll old new text = Consumes old new text × IsAtEnd new

-- this holds of the fault of a text
abbrev pub AtText : StreamFault → (TraceFault → Type 0) → Type 0
AtText (stream.Trace fault) P = P fault
AtText (stream.Read error) P = Unit {0}
AtText stream.NoMemory P = Unit {0}

-- a fault of a text, as a fault of the reader that has it
abbrev pub of_read : ReadFault → StreamFault
of_read (read.Trace fault) = stream.Trace fault
of_read read.NoMemory = stream.NoMemory
