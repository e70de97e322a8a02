use Rattle.std.proofs.Common.{rules}
use Rattle.lp_board.proofs.blank.Blank.after.Goals as goal

pub returns-in-Ok : goal.returns-in-Ok
returns-in-Ok c = search rules
