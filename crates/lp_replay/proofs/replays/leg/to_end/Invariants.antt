use Rattle.std.proofs.Common.{take}
use Rattle.lp_definitions.specs.Run.{Run, leg_of}
use Rattle.lp_machine.specs.Steps.{StandsIn}
use Rattle.lp_machine.specs.Table.{state_in}
use Rattle.lp_replay.proofs.Legs.{GoesOn, StandsAfter, longer}
use Rattle.lp_replay.proofs.replays.leg.to_end.Given as goal

-- a run that stood at the start stands here with the events so far, which its leg has too
abbrev pub invariant-loop-count : goal.invariant-loop-count
invariant-loop-count g l =
    (run : Run) → StandsIn g.M.Consistency.rules run (state_in l.fn.core)
    → StandsAfter g.M.Consistency.rules run l.events l.count l.core × GoesOn g.M.Consistency.rules (leg_of g.M.Consistency.rules run) l.events l.count (leg_of g.M.Consistency.rules (longer run (take l.count l.events)))
