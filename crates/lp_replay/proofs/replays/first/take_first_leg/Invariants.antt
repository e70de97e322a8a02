use Rattle.lp_definitions.specs.Run.{Run}
use Rattle.lp_cert.specs.Explained.{IsExplained}
use Rattle.lp_replay.proofs.FirstEnd.{IsExplainedAfter}
use Rattle.lp_replay.proofs.replays.first.take_first_leg.Given as goal

-- the engine and what is made are those of the run with the events so far
abbrev pub invariant-loop-event : goal.invariant-loop-event
invariant-loop-event g l =
    (run : Run) → IsExplained g.M.Consistency.rules run l.fn.explained → IsExplainedAfter g.M.Consistency.rules run l.events l.event-index l.explained
