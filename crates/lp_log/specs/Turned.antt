-- Why an event that was sent wasn't taken.
use Rattle.lp_transition.specs.declared.engine.step.Halt.{Halt}
use Rattle.lp_transition.specs.declared.engine.step.Halt.TheVariants as halt
use Rattle.lp_log.specs.declared.seat.TurnedBy.{TurnedBy}
use Rattle.lp_log.specs.declared.seat.TurnedBy.TheVariants.{JournalFull, NoMemory}

-- what the sender is told where the engine takes no event
abbrev pub turned_by : Halt → TurnedBy
turned_by halt.JournalFull = JournalFull
turned_by halt.NoMemory = NoMemory
