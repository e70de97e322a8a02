-- Numbers of causes, and what a reader in code gives beside the definitions, failed allocations apart.
use Rattle.std.specs.Prelude.{◌≡◌, ℕ, ◌≤◌, List, ◌++◌, codes, decimal, Result, Ok, Err}
use Rattle.lp_text.specs.declared.fault.Cause.{Cause}
use Rattle.lp_text.specs.declared.fault.Cause.TheVariants as cause
use Rattle.lp_text.specs.declared.fault.TraceFault.{TraceFault}
use Rattle.lp_text.specs.declared.fault.ReadFault.{ReadFault}
use Rattle.lp_text.specs.declared.fault.ReadFault.TheVariants as read

abbrev pub cause_number : Cause → ℕ
cause_number cause.Header = 1
cause_number cause.Unended = 2
cause_number cause.Word = 3
cause_number cause.Shape = 4
cause_number cause.Name = 5
cause_number cause.Doubled = 6
cause_number cause.Unknown = 7
cause_number cause.Patch = 8
cause_number cause.Task = 9
cause_number cause.Many = 10
cause_number cause.Long = 11
cause_number cause.Cert = 12

-- a fault is the one that the definitions give, but for a failed allocation, which may come at any time
abbrev pub IsReadFault : {Y : Type 0} → ReadFault → Result Y TraceFault → Type 0
IsReadFault read.NoMemory reading = Unit {0}
IsReadFault (read.Trace fault) reading = reading ≡ Err fault

-- what was read, seen by view, is what the definitions give, failed allocations apart
abbrev pub Gives : {X Y : Type 0} → (X → Y) → Result X ReadFault → Result Y TraceFault → Type 0
Gives view (Ok x) reading = reading ≡ Ok (view x)
Gives view (Err e) reading = IsReadFault e reading

-- a fault of the whole text or of its first line is told, also where memory is wanting
abbrev pub IsToldEarly : {X Y : Type 0} → Result Y TraceFault → Result X ReadFault → Type 0
IsToldEarly reading result = (why : TraceFault) → reading ≡ Err why → why.line ≤ 1 → result ≡ Err (read.Trace why)

-- ---- What faults print as

abbrev pub cause_text : Cause → List ℕ
cause_text cause.Header = codes "L1: the first line is no header"
cause_text cause.Unended = codes "L2: the last line lacks its end"
cause_text cause.Word = codes "L3: the first word is none of the text's, or belongs to an earlier part"
cause_text cause.Shape = codes "L4: a word too many or too few, or one that isn't as it has to be"
cause_text cause.Name = codes "L5: no name"
cause_text cause.Doubled = codes "L6: the name is there already"
cause_text cause.Unknown = codes "L7: the name is no symbol"
cause_text cause.Patch = codes "L8: a patch is out of place, or there is none"
cause_text cause.Task = codes "L9: no task number, or a boot task is there already"
cause_text cause.Many = codes "L10: one line more than its part may have"
cause_text cause.Long = codes "L11: more than 134,217,728 bytes"
cause_text cause.Cert = codes "L12: what follows the trace is no certificate"

abbrev pub trace_fault_text : TraceFault → List ℕ
trace_fault_text fault = codes "line " ++ decimal fault.line ++ codes ": " ++ cause_text fault.cause

abbrev pub read_fault_text : ReadFault → List ℕ
read_fault_text (read.Trace fault) = trace_fault_text fault
read_fault_text read.NoMemory = codes "out of memory"
