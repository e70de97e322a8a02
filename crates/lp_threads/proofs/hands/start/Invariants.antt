use Rattle.lp_threads.proofs.Players.{IsStarting}
use Rattle.lp_threads.proofs.hands.start.Given as goal

-- who has a seat has one that is left, or one that a thread was given
abbrev pub invariant-loop : goal.invariant-loop
invariant-loop g l = IsStarting (λ h. h.promise.hand.value.items) l.fn.seats.items l.left.items l.hands.items
