use Rattle.std.proofs.Common.{◌≡◌, ◌++◌, length}
use Rattle.std.specs.Vec.Iter.{into_iter_items, into_iter_len}
use Rattle.lp_owned.proofs.Back.{AreBack}
use Rattle.lp_owned.proofs.closing.take_all_back.Given as goal

-- those so far are back
abbrev pub invariant-loop-seat : goal.invariant-loop-seat
invariant-loop-seat g l =
    (l.yielded ++ into_iter_items l.seat-iterator ≡ into_iter_items l.initial.seat-iterator)
    × (l.keeper.all ≡ l.initial.keeper.all)
    × AreBack l.initial.keeper.all l.initial.keeper.out l.yielded l.keeper.out
    × (into_iter_len l.seat-iterator ≡ length (into_iter_items l.seat-iterator))
