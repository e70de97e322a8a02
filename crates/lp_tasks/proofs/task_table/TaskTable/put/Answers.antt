use Rattle.std.proofs.Common.{◌≡◌, ℕ, ◌<◌, ◌&&◌, ◌||◌, List, Option, None, Some, true, nat_eq, set, get_or, refl, ap, ◌∙◌, arith}
use Rattle.std.proofs.lemmas.List.{length-set}
use Rattle.lp_numbers.specs.Groups.{is_member}
use Rattle.lp_tasks.proofs.SlotLemmas.{padded-set}
use Rattle.lp_tasks.proofs.KeptLemmas.{tasks-put, kept-put}
use Rattle.lp_tasks.specs.inside.Deep.{deep_at, with_stacks}
use Rattle.lp_definitions.specs.Leg.{LegTask}
use Rattle.lp_tasks.specs.inside.Slots.{padded}
use Rattle.lp_tasks.specs.inside.Table.{is_in}
use Rattle.lp_tasks.proofs.task_table.TaskTable.put.Goals as goal

pub insert-requires : goal.insert-requires
insert-requires c =
    let free = rw (← c.self.view_is) at c.requires.free in
    record { positive = c.requires.positive; free = λ other. c.self.invariant.grouped other c.args.task.0 ∙ ap (is_in other) free }

pub invariant_of-self : goal.invariant_of-self
invariant_of-self c =
    let i = c.self.inside in
    let slots = i.slots.items in
    let within : c.from-at.result < 65536 = omega arith in
    let free = rw (← c.self.view_is) at c.requires.free in
    let empty : get_or (with_stacks (padded slots) (deep_at i.deep)) c.from-at.result None ≡ None = ap (λ t. get_or (with_stacks (padded slots) (deep_at i.deep)) t None) c.from-at.ensures ∙ free in
    let own : c.group.result.0 ≡ c.args.live.group = c.group.ensures in
    let entered : (group n : ℕ) → is_member c.insert.new.self group n ≡ (is_member i.members group n || (nat_eq group c.args.live.group && nat_eq n c.from-at.result)) = λ group n. c.insert.ensures group n ∙ rw (own, c.from-at.ensures) refl in
    let filled : padded (set c.reach.new.slots.items c.from-at.result (Some c.args.live)) ≡ set (padded slots) c.from-at.result (Some c.args.live) = padded-set c.reach.new.slots.items c.from-at.result (Some c.args.live) c.reach.ensures.reached ∙ ap (λ all. set all c.from-at.result (Some c.args.live)) c.reach.ensures.same in
    record {
      few = omega (arith, length-set c.reach.new.slots.items c.from-at.result (Some c.args.live), c.reach.ensures.few);
      room = omega (arith, c.reach.ensures.room, c.self.invariant.room);
      kept = rw (filled, c.insert-2.ensures.after, c.insert-3.ensures.after, ← c.from-at.ensures) (kept-put (padded slots) (deep_at i.deep) i.live i.used i.members c.self.invariant.kept c.from-at.result within c.args.live empty c.insert.new.self (rw (c.from-at.ensures, ← c.insert-2.ensures.after) c.insert-2.ensures.numbers) entered);
    }

pub returns : goal.returns
returns c =
    let i = c.self.inside in
    let slots = i.slots.items in
    let within : c.from-at.result < 65536 = omega arith in
    let free = rw (← c.self.view_is) at c.requires.free in
    let empty : get_or (with_stacks (padded slots) (deep_at i.deep)) c.from-at.result None ≡ None = ap (λ t. get_or (with_stacks (padded slots) (deep_at i.deep)) t None) c.from-at.ensures ∙ free in
    let filled : padded (set c.reach.new.slots.items c.from-at.result (Some c.args.live)) ≡ set (padded slots) c.from-at.result (Some c.args.live) = padded-set c.reach.new.slots.items c.from-at.result (Some c.args.live) c.reach.ensures.reached ∙ ap (λ all. set all c.from-at.result (Some c.args.live)) c.reach.ensures.same in
    rw (← c.self.view_is, c.insert-3.ensures.after, ← c.from-at.ensures, filled) (ap (λ (slots : List (Option LegTask)). record { slots = slots; used = set i.used c.from-at.result true }) (tasks-put (padded slots) (deep_at i.deep) i.live i.used i.members c.self.invariant.kept c.from-at.result within c.args.live empty))
