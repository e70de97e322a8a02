use Rattle.lp_stays.proofs.Holding.{mask_has-set, mask_has-unset}
use Rattle.lp_stays.proofs.holders.with_next.Goals as goal

pub returns-then-is_set : goal.returns-then-is_set
returns-then-is_set c = λ k. rw c.if-is_set.true (mask_has-set c.args.mask c.args.bit k c.requires.within)

pub returns-else-is_set : goal.returns-else-is_set
returns-else-is_set c = λ k. rw c.if-is_set.false (mask_has-unset c.args.mask c.args.bit k c.requires.unset)
