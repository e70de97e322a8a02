use Rattle.std.proofs.Common.{rules}
use Rattle.lp_board.proofs.update.heading_by.Goals as goal

pub returns-after-heading : goal.returns-after-heading
returns-after-heading c = search rules
