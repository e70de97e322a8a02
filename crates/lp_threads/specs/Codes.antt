-- The desk's faults by their letters and numbers.
use Rattle.std.specs.Prelude.{ℕ, List, Result, Ok, Err, codes}
use Rattle.lp_replay.specs.declared.run_fault.RunFault.{RunFault}
use Rattle.lp_threads.specs.declared.fault.ThreadsFault.{ThreadsFault}
use Rattle.lp_threads.specs.declared.fault.ThreadsFault.TheVariants as threads

-- the code of the desk's fault, or the fault of a run
abbrev pub code_of : ThreadsFault → Result (List ℕ) RunFault
code_of (threads.Run fault) = Err fault
code_of threads.NoReader = Ok (codes "T5")
code_of threads.NoThread = Ok (codes "D5")
