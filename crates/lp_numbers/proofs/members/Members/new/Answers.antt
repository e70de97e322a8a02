use Rattle.std.proofs.Common.{refl, ◌∙◌}
use Rattle.lp_numbers.proofs.Links.{lists-none, linked-lists, is_member-lists}
use Rattle.lp_numbers.proofs.members.Members.new.Goals as goal

pub invariant_of-result : goal.invariant_of-result
invariant_of-result c = record {
  linked = linked-lists _ _ _ _ (lists-none _ _ _ c.in_ok-new.ensures.zero) c.in_ok-new.ensures.count c.in_ok-new-2.ensures.count c.in_ok-new-3.ensures.count;
  named = λ group. c.in_ok-new-4.ensures.empty group ∙ rw (c.in_ok-new.ensures.zero group) refl;
}

pub returns : goal.returns
returns c = is_member-lists _ _ c.in_ok-new-3.field-0 _ (lists-none _ _ _ c.in_ok-new.ensures.zero)
