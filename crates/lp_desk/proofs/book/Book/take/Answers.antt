use Rattle.std.proofs.Common.{arith}
use Rattle.std.proofs.lemmas.Grind.{common_steps}
use Rattle.lp_desk.proofs.book.Book.take.Goals as goal

pub invariant_of-self-2 : goal.invariant_of-self-2
invariant_of-self-2 g c = grind (arith, common_steps)

pub returns-clause-journal : goal.returns-clause-journal
returns-clause-journal g c = grind (arith, common_steps)

pub publish-requires-clause-weighed : goal.publish-requires-clause-weighed
publish-requires-clause-weighed g c = grind (arith, common_steps)

pub commit-requires : goal.commit-requires
commit-requires g c = grind (arith, common_steps)
