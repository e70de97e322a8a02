-- Faults of lines, and what reading a line in code gives beside the definitions.
use Rattle.std.specs.Prelude.{◌≡◌, ℕ, Result, Ok, Err, IsOk}
use Rattle.lp_text.specs.declared.fault.Cause.{Cause}
use Rattle.lp_text.specs.declared.fault.ReadFault.{ReadFault}
use Rattle.lp_text.specs.declared.fault.ReadFault.TheVariants as read
use Rattle.lp_text.specs.declared.fault.LineFault.{LineFault}
use Rattle.lp_text.specs.declared.fault.LineFault.TheVariants as line

-- a cause, at the line's number
abbrev pub cause_at : ℕ → Cause → ReadFault
cause_at number why = read.Trace (record { line = number; cause = why })

-- the fault of a line, at the line's number
abbrev pub read_fault : ℕ → LineFault → ReadFault
read_fault number (line.Cause why) = cause_at number why
read_fault number line.NoMemory = read.NoMemory

-- a fault is the one that the definitions give; want of memory is told only where they give none
abbrev pub IsLineFault : {Y : Type 0} → LineFault → Result Y Cause → Type 0
IsLineFault line.NoMemory reading = IsOk reading
IsLineFault (line.Cause why) reading = reading ≡ Err why

-- what was read without any allocation, seen by view, is what the definitions give, and so is its fault
abbrev pub GivesExactly : {X Y : Type 0} → (X → Y) → Result X Cause → Result Y Cause → Type 0
GivesExactly view (Ok x) reading = reading ≡ Ok (view x)
GivesExactly view (Err why) reading = reading ≡ Err why

-- what was read, seen by view, is what the definitions give, failed allocations of a line without fault apart
abbrev pub GivesLine : {X Y : Type 0} → (X → Y) → Result X LineFault → Result Y Cause → Type 0
GivesLine view (Ok x) reading = reading ≡ Ok (view x)
GivesLine view (Err e) reading = IsLineFault e reading
