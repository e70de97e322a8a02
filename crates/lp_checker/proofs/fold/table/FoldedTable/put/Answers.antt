use Rattle.std.proofs.Common.{◌≡◌, ◌<◌, ◌+◌, true, length, List, Option, Some, None, if◌then◌else◌, nat_eq, get_or, set, sym, ap, ◌∙◌, subst, arith}
use Rattle.lp_definitions.specs.Leg.{LegTask}
use Rattle.lp_machine.specs.Table.{leg_tasks}
use Rattle.lp_definitions.specs.Tasks.{Live}
use Rattle.lp_tasks.proofs.TableLemmas.{value_at}
use Rattle.lp_checker.specs.inside.Tables.{all_slots, IsKept}
use Rattle.lp_checker.proofs.Tables.{counted-few, kept-same, kept-put, leg_tasks-put}
use Rattle.lp_checker.proofs.fold.table.FoldedTable.put.Goals as goal

pub overflow_add-index_mut : goal.overflow_add-index_mut
overflow_add-index_mut c =
    let i = c.self.inside in
    let group = c.from-group.result in
    let small : group < 65536 = omega arith in
    let few = counted-few (record { slots = all_slots i.slots.items; used = i.used }) i.members.items group c.self.invariant.counted small in
    let here = value_at c.add_zeros.new.numbers.items group c.index_mut.result.now c.in_ok-add_zeros.ensures.room c.index_mut.ensures.value in
    omega (arith, few, here, c.in_ok-add_zeros.ensures.same group)

pub invariant_of-self-2 : goal.invariant_of-self-2
invariant_of-self-2 c =
    let i = c.self.inside in
    let t = c.args.task.0 in
    let x = c.args.live in
    let slots = c.add_slots.new.slots.items in
    let members = c.add_zeros.new.numbers.items in
    let now = kept-same i.slots.items slots i.used i.members.items members c.self.invariant c.in_ok-add_slots.ensures.few c.in_ok-add_slots.ensures.same c.in_ok-add_zeros.ensures.same in
    let same : x.group ≡ c.from-group.result = sym c.group.ensures ∙ sym c.from-group.ensures in
    let room : t < length slots = omega (arith, c.in_ok-add_slots.ensures.room, c.from-place.ensures) in
    let small : x.group < length members = omega (arith, same, c.in_ok-add_zeros.ensures.room) in
    let here = value_at members c.from-group.result c.index_mut.result.now c.in_ok-add_zeros.ensures.room c.index_mut.ensures.value in
    let none : get_or (all_slots slots) t None ≡ None = ap (λ (all : List (Option LegTask)). get_or all t None) c.in_ok-add_slots.ensures.same ∙ (rw (← c.self.view_is) at c.requires.free) in
    let kept = kept-put slots i.used members now t x room c.requires.positive small none in
    rw (c.from-place.ensures, c.insert.ensures.after)
    (subst (λ m. IsKept (set slots t (Some x)) (set i.used t true) (set members c.from-group.result (m + 1))) (sym here)
    (subst (λ n. IsKept (set slots t (Some x)) (set i.used t true) (set members n (get_or members n 0 + 1))) same kept))

pub returns-clause-put : goal.returns-clause-put
returns-clause-put c =
    let i = c.self.inside in
    let t = c.args.task.0 in
    let x = c.args.live in
    let slots = c.add_slots.new.slots.items in
    let members = c.add_zeros.new.numbers.items in
    let now = kept-same i.slots.items slots i.used i.members.items members c.self.invariant c.in_ok-add_slots.ensures.few c.in_ok-add_slots.ensures.same c.in_ok-add_zeros.ensures.same in
    let room : t < length slots = omega (arith, c.in_ok-add_slots.ensures.room, c.from-place.ensures) in
    rw (← c.self.view_is, c.from-place.ensures, c.insert.ensures.after)
    (leg_tasks-put slots i.used members now t x room
    ∙ ap (λ (all : List (Option LegTask)). λ u. if nat_eq u t then Live x else leg_tasks (record { slots = all; used = i.used }) u) c.in_ok-add_slots.ensures.same)
