use Rattle.lp_definitions.specs.Run.{Run}
use Rattle.lp_machine.specs.Steps.{StandsIn}
use Rattle.lp_machine.specs.Table.{state_in}
use Rattle.lp_replay.proofs.Legs.{StandsAfter}
use Rattle.lp_replay.proofs.replays.leg.step_all.Given as goal

-- a run that stood at the start stands here with the events so far
abbrev pub invariant-loop-event : goal.invariant-loop-event
invariant-loop-event g l =
    (run : Run) → StandsIn g.M.Consistency.rules run (state_in l.fn.core) → StandsAfter g.M.Consistency.rules run l.events l.event-index l.core
