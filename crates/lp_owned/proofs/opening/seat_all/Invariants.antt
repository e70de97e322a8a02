use Rattle.std.proofs.Common.{◌≡◌, ◌++◌, length}
use Rattle.std.specs.Vec.Iter.{into_iter_items, into_iter_len}
use Rattle.lp_owned.proofs.Seating.{AreSeated}
use Rattle.lp_owned.proofs.opening.seat_all.Given as goal

-- those so far have their parts
abbrev pub invariant-loop-seat : goal.invariant-loop-seat
invariant-loop-seat g l =
    (l.yielded ++ into_iter_items l.seat-iterator ≡ into_iter_items l.initial.seat-iterator)
    × AreSeated l.yielded l.owned.items l.keeper
    × (into_iter_len l.seat-iterator ≡ length (into_iter_items l.seat-iterator))
