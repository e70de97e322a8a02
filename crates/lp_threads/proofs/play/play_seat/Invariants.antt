use Rattle.lp_threads.proofs.Players.{IsMidway}
use Rattle.lp_threads.proofs.play.play_seat.Given as goal

-- the script is the seat's, which has sent this much of it
abbrev pub invariant-loop-event : goal.invariant-loop-event
invariant-loop-event g l = IsMidway g.S.TraceName.events l.script l.event-index l.fn.seat l.seat l.fn.waiting.items l.waiting.items
