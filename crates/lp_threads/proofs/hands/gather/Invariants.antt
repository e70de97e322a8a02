use Rattle.std.proofs.Common.{◌≡◌, ◌++◌, length}
use Rattle.std.specs.Vec.Iter.{into_iter_items, into_iter_len}
use Rattle.lp_threads.proofs.Players.{AreGathered}
use Rattle.lp_threads.proofs.hands.gather.Given as goal

-- what the players so far handed in is here
abbrev pub invariant-loop-hand : goal.invariant-loop-hand
invariant-loop-hand g l =
    (l.yielded ++ into_iter_items l.hand-iterator ≡ into_iter_items l.initial.hand-iterator)
    × AreGathered (λ h. h.promise.hand.value.items) g.S.TraceName.events l.yielded l.all.items l.full
    × (into_iter_len l.hand-iterator ≡ length (into_iter_items l.hand-iterator))
