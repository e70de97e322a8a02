use Rattle.std.proofs.Common.{◌≡◌, ◌&&◌, ℕ, None, get_or, is_some, nat_lt}
use Rattle.lp_numbers.specs.Numbers.{has}
use Rattle.lp_board.proofs.levels.live_in.Given as goal

abbrev pub invariant-loop-at : goal.invariant-loop-at
invariant-loop-at l = (t : ℕ) → has l.live t ≡ (nat_lt t l.at && is_some (get_or l.levels t None))
