use Rattle.lp_tasks.proofs.DeepLemmas.{store-empty}
use Rattle.lp_tasks.proofs.deep_stacks.DeepStacks.new.Goals as goal

pub invariant_of-result : goal.invariant_of-result
invariant_of-result c =
    rw (c.in_ok-with_capacity.ensures.items, c.in_ok-with_capacity-2.ensures.items) (store-empty c.in_ok-new.field-0 _ _ c.in_ok-with_capacity.ensures.capacity c.in_ok-with_capacity-2.ensures.capacity c.in_ok-new.ensures.empty c.in_ok-new.ensures.numbers)
