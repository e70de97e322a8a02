-- What is built of parts so far, and its helpers.
use Rattle.std.specs.Prelude.{◌≡◌, ℕ, ◌+◌, ◌≤◌, ◌⊎◌, length, Ok}
use Rattle.lp_definitions.specs.declared.event.Event.{Event}
use Rattle.lp_definitions.specs.declared.event.Event.TheVariants.{Call, Ret, Sleep, Wake, Enter, Exit, Idle, Resched, Fork, Die, Walk, Stop, Enable, Disable, Reverse}
use Rattle.lp_text.specs.declared.fault.LineFault.{LineFault}
use Rattle.lp_text.specs.declared.fault.LineFault.TheVariants as line
use Rattle.lp_text.specs.declared.of.OfFault.{OfFault}
use Rattle.lp_text.specs.declared.of.OfFault.TheVariants.{Unwritable, NoMemory}
use Rattle.lp_text.specs.Traces.{TraceValue, lines_after_header, text_of}
use Rattle.lp_text.specs.Reading.{empty}
use Rattle.lp_text.specs.Build.{spelling_from}

-- what the lines so far gave, the place of the next one, and how many bytes the text has
pub record IsBuilt (so_far : TraceValue) (place size : ℕ) : Type 0 where
  pub spells : spelling_from 1 (empty so_far.form) (lines_after_header so_far) ≡ Ok so_far
  pub place_is : place ≡ length (lines_after_header so_far) + 1
  pub size_is : size ≡ length (text_of so_far)
  pub few : size ≤ 134217728

-- the fault of a line, of the part at a place
abbrev pub of_fault : ℕ → LineFault → OfFault
of_fault place (line.Cause why) = Unwritable place
of_fault place line.NoMemory = NoMemory

-- an event that no line spells: of a task 0, or a call of none of so many symbols
abbrev pub IsOut : ℕ → Event → Type 0
IsOut symbols (Call task func) = (task.0 ≡ 0) ⊎ (symbols ≤ func.0)
IsOut symbols (Ret task) = task.0 ≡ 0
IsOut symbols (Sleep task) = task.0 ≡ 0
IsOut symbols (Wake task) = task.0 ≡ 0
IsOut symbols (Enter task) = task.0 ≡ 0
IsOut symbols (Exit task) = task.0 ≡ 0
IsOut symbols (Idle task) = task.0 ≡ 0
IsOut symbols (Resched task) = task.0 ≡ 0
IsOut symbols (Fork parent child how) = (parent.0 ≡ 0) ⊎ (child.0 ≡ 0)
IsOut symbols (Die task) = task.0 ≡ 0
IsOut symbols Walk = ⊥
IsOut symbols Stop = ⊥
IsOut symbols Enable = ⊥
IsOut symbols Disable = ⊥
IsOut symbols Reverse = ⊥
