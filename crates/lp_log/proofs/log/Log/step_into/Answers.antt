use Rattle.std.proofs.Common.{arith}
use Rattle.std.proofs.lemmas.Grind.{common_steps}
use Rattle.lp_log.proofs.log.Log.step_into.Goals as goal

pub step_reserved-reply-requires-clause-room : goal.step_reserved-reply-requires-clause-room
step_reserved-reply-requires-clause-room g c = grind (arith, common_steps)

pub next_number-number-requires : goal.next_number-number-requires
next_number-number-requires g c = grind (arith, common_steps)

pub push_reserved-requires : goal.push_reserved-requires
push_reserved-requires g c = grind (arith, common_steps)

pub step_reserved-reply-requires-clause-left : goal.step_reserved-reply-requires-clause-left
step_reserved-reply-requires-clause-left g c = grind (arith, common_steps)

pub returns-clause-left : goal.returns-clause-left
returns-clause-left g c = grind (arith, common_steps)
