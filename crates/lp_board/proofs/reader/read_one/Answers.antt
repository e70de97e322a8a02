use Rattle.std.proofs.Common.{rules}
use Rattle.lp_board.proofs.reader.read_one.Goals as goal

pub returns-in-Ok-clause-shown : goal.returns-in-Ok-clause-shown
returns-in-Ok-clause-shown g c = search rules
