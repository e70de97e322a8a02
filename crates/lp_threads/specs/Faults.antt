-- What is so at a fault of threads.
use Rattle.std.specs.Prelude.{◌≡◌}
use Rattle.lp_threads.specs.declared.fault.ThreadsFault.{ThreadsFault}
use Rattle.lp_threads.specs.declared.fault.ThreadsFault.TheVariants as threads
use Rattle.lp_text.specs.StreamContract.{Ending, OtherFault}
use Rattle.lp_replay.specs.Runs.{run_end}
use Rattle.lp_replay.specs.declared.run_fault.RunFault.{RunFault}
use Rattle.lp_replay.specs.declared.run_fault.RunFault.TheVariants.{NoMemory}

-- this holds of a fault as of a run; and that is so at the desk's own
abbrev pub AtRunElse : ThreadsFault → (RunFault → Type 0) → Type 0 → Type 0
AtRunElse (threads.Run fault) P Q = P fault
AtRunElse threads.NoReader P Q = Q
AtRunElse threads.NoThread P Q = Q

-- this holds of a fault as of a run
abbrev pub AtRun : ThreadsFault → (RunFault → Type 0) → Type 0
AtRun fault P = AtRunElse fault P (Unit {0})

-- how a call ended for its streams by a fault of threads
abbrev pub threads_end : ThreadsFault → Ending
threads_end (threads.Run fault) = run_end fault
threads_end threads.NoReader = OtherFault
threads_end threads.NoThread = OtherFault

-- this is so at the desk's own faults
abbrev pub AtDesk : ThreadsFault → Type 0 → Type 0
AtDesk fault P = AtRunElse fault (λ why. Unit {0}) P

-- the fault comes while a trace is played: as of a run it is nothing but want of memory
abbrev pub IsOfPlay : ThreadsFault → Type 0
IsOfPlay fault = AtRunElse fault (λ why. why ≡ NoMemory) (Unit {0})
