use Rattle.std.proofs.Common.{◌≡◌, ℕ, ◌+◌, ◌-◌, slice_index, vec_len}
use Rattle.lp_checker.proofs.fold.table.add_zeros.Given as goal

-- each number is as it was
abbrev pub invariant-loop-numbers : goal.invariant-loop-numbers
invariant-loop-numbers l = (n : ℕ) → slice_index l.numbers.items n ≡ slice_index l.initial.numbers.items n

abbrev pub decreases-loop-numbers : goal.decreases-loop-numbers
decreases-loop-numbers l = l.place + 1 - vec_len l.numbers
