-- How the program ends: its exit status, and its line on standard error.
use Rattle.std.specs.Prelude.{◌≡◌, ℕ, List, [], ◌++◌, Result, Ok, Err, codes, decimal}
use Rattle.lp_replay.specs.declared.run_fault.RunFault.{RunFault}
use Rattle.lp_replay.specs.declared.run_fault.RunFault.TheVariants as run
use Rattle.lp_text.specs.Faults.{cause_number}
use Rattle.lp_text.specs.StreamContract.{Ending, Done, ReadFailed, WriteFailed, OtherFault}
use Rattle.lp_program.specs.declared.fault.Fault.{Fault}
use Rattle.lp_program.specs.declared.fault.Fault.TheVariants as fault
use Rattle.lp_words.specs.declared.words.WordsFault.{WordsFault}
use Rattle.lp_words.specs.declared.words.WordsFault.TheVariants as words

-- the exit status
abbrev pub status_of : Fault → ℕ
status_of fault.Read = 1
status_of fault.Write = 1
status_of fault.Usage = 2
status_of fault.UnknownModel = 2
status_of (fault.Trace why) = 3
status_of fault.Refused = 4
status_of fault.NoMemory = 5
status_of (fault.Desk code) = 6

-- the line of a fault of the desk, by its code
abbrev pub desk_line : List ℕ → List ℕ
desk_line code = codes "lpt: desk: " ++ (code ++ codes "\n")

-- the line on standard error; none where standard output says why
abbrev pub line_for : Fault → List ℕ
line_for fault.Read = codes "lpt: read fault\n"
line_for fault.Write = codes "lpt: write fault\n"
line_for fault.Usage = codes "lpt: usage\n"
line_for fault.UnknownModel = codes "lpt: unknown model\n"
line_for (fault.Trace why) = codes "lpt: line " ++ (decimal why.line ++ (codes ": L" ++ (decimal (cause_number why.cause) ++ codes "\n")))
line_for fault.Refused = []
line_for fault.NoMemory = codes "lpt: out of memory\n"
line_for (fault.Desk code) = desk_line code.now

-- how the program ends where its words ask for nothing
abbrev pub of_words : WordsFault → Fault
of_words words.Usage = fault.Usage
of_words words.UnknownModel = fault.UnknownModel
of_words words.NoMemory = fault.NoMemory

-- how it ends where a run or a check doesn't write its output
abbrev pub of_run : RunFault → Fault
of_run (run.Read error) = fault.Read
of_run (run.Trace why) = fault.Trace why
of_run run.NoMemory = fault.NoMemory
of_run (run.Write error) = fault.Write

-- how a call ended for its streams: a certificate that is refused has its answer written like any other
abbrev pub program_end : Fault → Ending
program_end fault.Read = ReadFailed
program_end fault.Write = WriteFailed
program_end fault.Refused = Done
program_end fault.Usage = OtherFault
program_end fault.UnknownModel = OtherFault
program_end (fault.Trace why) = OtherFault
program_end fault.NoMemory = OtherFault
program_end (fault.Desk code) = OtherFault

-- how it ends where threads don't write their report: as a run, or by the code of the desk's fault
abbrev pub IsOfThreads : Result (List ℕ) RunFault → Fault → Type 0
IsOfThreads (Err why) end = end ≡ of_run why
IsOfThreads (Ok code) (fault.Desk text) = text.now ≡ code
IsOfThreads (Ok code) other = ⊥
