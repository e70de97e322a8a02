use Rattle.std.proofs.Common.{rules}
use Rattle.lp_log.proofs.log.sent.child_seat.Goals as goal

pub returns-in-Fork-Refused : goal.returns-in-Fork-Refused
returns-in-Fork-Refused c = search rules
