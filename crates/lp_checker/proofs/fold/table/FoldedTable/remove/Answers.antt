use Rattle.std.proofs.Common.{◌≡◌, ◌<◌, ◌+◌, ◌-◌, ◌≤◌, length, None, get_or, set, sym, ◌∙◌, subst, arith}
use Rattle.lp_machine.specs.Table.{Table}
use Rattle.lp_tasks.proofs.TableLemmas.{value_at}
use Rattle.lp_checker.specs.inside.Tables.{all_slots, IsKept}
use Rattle.lp_checker.proofs.Tables.{group-there, within, one_there, group_within, kept-remove, leg_tasks-remove}
use Rattle.lp_checker.proofs.fold.table.FoldedTable.remove.Goals as goal

pub index_mut-requires : goal.index_mut-requires
index_mut-requires c =
    let i = c.self.inside in
    let table : Table = record { slots = all_slots i.slots.items; used = i.used } in
    let there = group-there table c.args.task.0 c.args.group.0 (rw (← c.self.view_is) at c.requires) in
    let small : there.0.group < 65536 = omega (arith, there.2) in
    let within_counts = group_within i.slots.items i.used i.members.items c.self.invariant c.args.task.0 there.0 there.1 small in
    omega (arith, within_counts, there.2)

pub overflow_sub-index_mut : goal.overflow_sub-index_mut
overflow_sub-index_mut c =
    let i = c.self.inside in
    let table : Table = record { slots = all_slots i.slots.items; used = i.used } in
    let there = group-there table c.args.task.0 c.args.group.0 (rw (← c.self.view_is) at c.requires) in
    let same : there.0.group ≡ c.from.result = there.2 ∙ sym c.from.ensures in
    let small : there.0.group < 65536 = omega (arith, there.2) in
    let some_here : 1 ≤ get_or i.members.items c.from.result 0 = subst (λ n. 1 ≤ get_or i.members.items n 0) same (one_there i.slots.items i.used i.members.items c.self.invariant c.args.task.0 there.0 there.1 small) in
    let wide : c.from.result < length i.members.items = omega (arith, same, group_within i.slots.items i.used i.members.items c.self.invariant c.args.task.0 there.0 there.1 small) in
    let here = value_at i.members.items c.from.result c.index_mut.result.now wide c.index_mut.ensures.value in
    omega (arith, some_here, here)

pub index_mut-requires-2 : goal.index_mut-requires-2
index_mut-requires-2 c =
    let i = c.self.inside in
    let table : Table = record { slots = all_slots i.slots.items; used = i.used } in
    let there = group-there table c.args.task.0 c.args.group.0 (rw (← c.self.view_is) at c.requires) in
    let small : there.0.group < 65536 = omega (arith, there.2) in
    omega (arith, within i.slots.items i.used i.members.items c.self.invariant c.args.task.0 there.0 there.1 small)

pub invariant_of-self : goal.invariant_of-self
invariant_of-self c =
    let i = c.self.inside in
    let table : Table = record { slots = all_slots i.slots.items; used = i.used } in
    let there = group-there table c.args.task.0 c.args.group.0 (rw (← c.self.view_is) at c.requires) in
    let same : there.0.group ≡ c.from.result = there.2 ∙ sym c.from.ensures in
    let small : there.0.group < 65536 = omega (arith, there.2) in
    let some_here : 1 ≤ get_or i.members.items c.from.result 0 = subst (λ n. 1 ≤ get_or i.members.items n 0) same (one_there i.slots.items i.used i.members.items c.self.invariant c.args.task.0 there.0 there.1 small) in
    let wide : c.from.result < length i.members.items = omega (arith, same, group_within i.slots.items i.used i.members.items c.self.invariant c.args.task.0 there.0 there.1 small) in
    let here = value_at i.members.items c.from.result c.index_mut.result.now wide c.index_mut.ensures.value in
    let less : (c.index_mut.result.now - 1) + 1 ≡ get_or i.members.items there.0.group 0 = subst (λ n. (c.index_mut.result.now - 1) + 1 ≡ get_or i.members.items n 0) (sym same) (omega (arith, some_here, here)) in
    let kept = kept-remove i.slots.items i.used i.members.items c.self.invariant c.args.task.0 there.0 there.1 small (c.index_mut.result.now - 1) less in
    rw c.from-2.ensures (subst (λ n. IsKept (set i.slots.items c.args.task.0 None) i.used (set i.members.items n (c.index_mut.result.now - 1))) same kept)

pub returns : goal.returns
returns c =
    let i = c.self.inside in
    let table : Table = record { slots = all_slots i.slots.items; used = i.used } in
    let there = group-there table c.args.task.0 c.args.group.0 (rw (← c.self.view_is) at c.requires) in
    let small : there.0.group < 65536 = omega (arith, there.2) in
    rw (← c.self.view_is, c.from-2.ensures) (leg_tasks-remove i.slots.items i.used i.members.items c.self.invariant c.args.task.0 there.0 there.1 small)
