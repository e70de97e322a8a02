use Rattle.lp_threads.proofs.Players.{IsPlaying}
use Rattle.lp_threads.proofs.play.play_seats.Given as goal

-- some seats were played, and others wait
abbrev pub invariant-loop : goal.invariant-loop
invariant-loop g l = IsPlaying g.S.TraceName.events l.fn.hand.items l.seats.items l.waiting.items l.full
