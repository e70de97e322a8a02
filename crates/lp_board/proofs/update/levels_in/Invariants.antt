use Rattle.std.proofs.Common.{◌≡◌, take}
use Rattle.std.specs.List.{filter_map}
use Rattle.lp_numbers.specs.Numbers.{has}
use Rattle.lp_board.specs.inside.Changes.{target_if}
use Rattle.lp_board.proofs.update.levels_in.Given as goal

abbrev pub invariant-loop-verdict : goal.invariant-loop-verdict
invariant-loop-verdict g l = l.levels.items ≡ filter_map (target_if l.core (has l.over)) (take l.verdict-index l.verdicts)
