use Rattle.std.proofs.Common.{◌≡◌, map}
use Rattle.std.specs.List.{range_with_len}
use Rattle.lp_machine.specs.Table.{leg_tasks}
use Rattle.lp_board.specs.Pages.{level_of}
use Rattle.lp_board.proofs.levels.list_of.Given as goal

abbrev pub invariant-loop-number : goal.invariant-loop-number
invariant-loop-number g l = l.levels.items ≡ map (λ t. level_of (leg_tasks l.core.table t)) (range_with_len 0 l.number)
