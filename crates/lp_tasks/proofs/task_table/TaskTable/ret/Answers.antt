use Rattle.std.proofs.Common.{◌≡◌, ◌<◌, ◌≤◌, length, vec_capacity, List, Option, Some, refl, sym, ap, subst, ◌∙◌, arith}
use Rattle.std.proofs.lemmas.Grind.{common_steps}
use Rattle.std.specs.Option.{option_map}
use Rattle.lp_machine.specs.Machine.{returning}
use Rattle.lp_definitions.specs.Leg.{LegTask}
use Rattle.lp_tasks.specs.inside.Deep.{deep_at, with_deep, IsRecorded}
use Rattle.lp_tasks.proofs.KeptLemmas.{slot-recorded, slots-moved, kept-moved, unchanged-past}
use Rattle.lp_tasks.proofs.task_table.TaskTable.ret.Goals as goal

pub ret-requires : goal.ret-requires
ret-requires c =
    let i = c.self.inside in
    let made : c.args.task.0 < length i.slots.items = omega arith in
    let read = rw c.from-at.ensures at c.index_mut.ensures.value in
    let was : c.index_mut.result.now ≡ Some c.in-Some.live = c.in-Some.is in
    record { recorded = subst (λ o. IsRecorded o (deep_at i.deep c.args.task.0)) was (slot-recorded i.slots.items (vec_capacity i.slots) (deep_at i.deep) i.live i.used i.members c.self.invariant c.args.task.0 made c.index_mut.result.now read) }

pub invariant_of-self : goal.invariant_of-self
invariant_of-self c =
    let i = c.self.inside in
    let t = c.args.task.0 in
    let made : c.args.task.0 < length i.slots.items = omega arith in
    let read = rw c.from-at.ensures at c.index_mut.ensures.value in
    let was : c.index_mut.result.now ≡ Some c.in-Some.live = c.in-Some.is in
    let is = c.ret.ensures.returned ∙ ap (λ o. option_map (returning) (with_deep o (deep_at i.deep t))) (sym was) in
    rw c.from-at.ensures (kept-moved i.slots.items (vec_capacity i.slots) (deep_at i.deep) i.live i.used i.members c.self.invariant t made c.index_mut.result.now read (deep_at c.ret.new.deep) c.ret.ensures.others _ (returning) is (λ x. refl) c.ret.ensures.recorded)

pub returns-in-Some : goal.returns-in-Some
returns-in-Some c =
    let i = c.self.inside in
    let t = c.args.task.0 in
    let made : c.args.task.0 < length i.slots.items = omega arith in
    let read = rw c.from-at.ensures at c.index_mut.ensures.value in
    let was : c.index_mut.result.now ≡ Some c.in-Some.live = c.in-Some.is in
    let is = c.ret.ensures.returned ∙ ap (λ o. option_map (returning) (with_deep o (deep_at i.deep t))) (sym was) in
    rw (← c.self.view_is, c.from-at.ensures) (ap (λ (slots : List (Option LegTask)). record { slots = slots; used = i.used }) (slots-moved i.slots.items (vec_capacity i.slots) (deep_at i.deep) i.live i.used i.members c.self.invariant t made c.index_mut.result.now read (deep_at c.ret.new.deep) c.ret.ensures.others _ (returning) is))

pub returns-in_default : goal.returns-in_default
returns-in_default c =
    let i = c.self.inside in
    let t = c.args.task.0 in
    let made : c.args.task.0 < length i.slots.items = omega arith in
    let read = rw c.from-at.ensures at c.index_mut.ensures.value in
    rw (← c.self.view_is, c.from-at.ensures) (ap (λ (slots : List (Option LegTask)). record { slots = slots; used = i.used }) (slots-moved i.slots.items (vec_capacity i.slots) (deep_at i.deep) i.live i.used i.members c.self.invariant t made c.index_mut.result.now read (deep_at i.deep) (λ u ne. refl) c.index_mut.result.now (returning) (rw c.in_default.is refl)))

pub returns-then-at-len : goal.returns-then-at-len
returns-then-at-len c =
    let i = c.self.inside in
    let past : length i.slots.items ≤ c.args.task.0 = omega arith in
    rw (← c.self.view_is) (ap (λ (slots : List (Option LegTask)). record { slots = slots; used = i.used }) (unchanged-past i.slots.items (deep_at i.deep) c.args.task.0 past returning))

pub invariant_of-self-in_default : goal.invariant_of-self-in_default
invariant_of-self-in_default c = grind (arith, common_steps)
