use Rattle.std.proofs.Common.{◌≡◌, take}
use Rattle.lp_log.specs.Journals.{events_in}
use Rattle.lp_threads.proofs.play.play_control.Given as goal

-- the control has sent this much of its script
abbrev pub invariant-loop-event : goal.invariant-loop-event
invariant-loop-event g l = events_in l.control ≡ take l.event-index l.script
