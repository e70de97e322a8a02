use Rattle.std.proofs.Common.{arith, rules}
use Rattle.std.proofs.lemmas.Grind.{common_steps}
use Rattle.lp_desk.proofs.book.Book.submit.Goals as goal

pub returns-clause-seat : goal.returns-clause-seat
returns-clause-seat c = grind (arith, common_steps)

pub returns-clause-left : goal.returns-clause-left
returns-clause-left c = grind (arith, common_steps)

pub returns-clause-sent : goal.returns-clause-sent
returns-clause-sent c = grind (arith, common_steps)

pub returns-then-is_err-clause-unchanged : goal.returns-then-is_err-clause-unchanged
returns-then-is_err-clause-unchanged c = grind (arith, common_steps)

pub invariant_of-self-2 : goal.invariant_of-self-2
invariant_of-self-2 c = grind (arith, common_steps)

pub publish-requires-clause-weighed : goal.publish-requires-clause-weighed
publish-requires-clause-weighed c = grind (arith, common_steps)

pub returns-clause-journal : goal.returns-clause-journal
returns-clause-journal c = grind (arith, common_steps)

pub returns-in_err-sending-clause-not_yours : goal.returns-in_err-sending-clause-not_yours
returns-in_err-sending-clause-not_yours c = search rules

pub returns-in_err-sending-clause-full : goal.returns-in_err-sending-clause-full
returns-in_err-sending-clause-full c = search rules
