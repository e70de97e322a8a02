use Rattle.std.proofs.Common.{List, [], ◌∷◌, ◌++◌, append_assoc, sym, ap, ◌∙◌}
use Rattle.std.proofs.lemmas.List.{map-append}
use Rattle.lp_stack.specs.declared.number.GroupId.{GroupId}
use Rattle.lp_definitions.specs.Events.{group_numbers}
use Rattle.lp_transition.proofs.engine.scan.group_list.Goals as goal

pub loop-number-preserved : goal.loop-number-preserved
loop-number-preserved c =
    let groups = c.loop-number.groups.items in
    let left = c.next.new.self in
    let group : GroupId = record { 0 = c.in-Some.number } in
    ap (λ (items : List GroupId). group_numbers items ++ left) c.in_ok-push.ensures.items
    ∙ ap (λ ns. ns ++ left) (map-append (λ (g : GroupId). g.0) groups (group ∷ []))
    ∙ append_assoc (group_numbers groups) (c.in-Some.number ∷ []) left
    ∙ ap (λ ns. group_numbers groups ++ ns) (sym c.in-Some.ensures.steps)
    ∙ c.loop-number.invariant
