use Rattle.std.proofs.Common.{take, ◌++◌}
use Rattle.lp_definitions.specs.Run.{Run}
use Rattle.lp_replay.specs.inside.Recording.{IsRecorded}
use Rattle.lp_replay.proofs.replays.recorder.Recorder.record_all.Given as goal

-- what was kept of a run at the start is now that of the run with the events so far
abbrev pub invariant-loop-event : goal.invariant-loop-event
invariant-loop-event g l =
    (run : Run) → IsRecorded g.M.Consistency.rules run l.fn.self → IsRecorded g.M.Consistency.rules (record run { events = run.events ++ take l.event-index l.events }) l.self
