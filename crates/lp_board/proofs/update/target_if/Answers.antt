use Rattle.std.proofs.Common.{rules}
use Rattle.lp_board.proofs.update.target_if.Goals as goal

pub returns-then-contains : goal.returns-then-contains
returns-then-contains g c = search rules

pub returns-else-contains : goal.returns-else-contains
returns-else-contains g c = search rules
