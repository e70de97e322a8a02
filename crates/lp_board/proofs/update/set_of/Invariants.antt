use Rattle.std.proofs.Common.{◌≡◌, ℕ, take, nat_eq}
use Rattle.std.specs.List.{list_any}
use Rattle.lp_numbers.specs.Numbers.{has}
use Rattle.lp_definitions.specs.Events.{group_numbers}
use Rattle.lp_board.proofs.update.set_of.Given as goal

abbrev pub invariant-loop-group : goal.invariant-loop-group
invariant-loop-group l = (n : ℕ) → has l.set n ≡ list_any (nat_eq n) (group_numbers (take l.group-index l.groups))
