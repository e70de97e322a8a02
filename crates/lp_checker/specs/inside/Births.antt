-- What the fold asks of a birth.
use Rattle.std.specs.Prelude.{ℕ, Bool, false, ◌&&◌, Option, Some, None, nat_eq}
use Rattle.lp_stack.specs.declared.number.GroupId.{GroupId}
use Rattle.lp_model.specs.Rules.{Rules}
use Rattle.lp_definitions.specs.declared.event.Event.{Event}
use Rattle.lp_definitions.specs.declared.event.Event.TheVariants.{Fork}
use Rattle.lp_definitions.specs.Tasks.{Life, Fate, on_live}

-- the group of a live task
abbrev pub group_in : Fate Life → Option ℕ
group_in fate = on_live None (λ x. Some x.group) fate

-- the group of a live task, or 0
abbrev pub group_or_0 : Fate Life → ℕ
group_or_0 fate = on_live 0 (λ x. x.group) fate

-- the event is a fork by the parent, which is in the group `from`, of a child with the number and the group `group`
abbrev pub is_own_fork : Rules → Option Event → Option ℕ → (from group parent : ℕ) → Bool
is_own_fork model (Some (Fork p c how)) (Some own) from group parent =
    (nat_eq p.0 parent && nat_eq c.0 group) && (nat_eq own from && nat_eq (model.child_group own c.0 how) group)
is_own_fork model _ _ from group parent = false

-- the group of the last birth so far, or the first group
abbrev pub group_now : Option GroupId → ℕ → ℕ
group_now None first = first
group_now (Some group) first = group.0
