use Rattle.std.proofs.Common.{◌≡◌, ◌<◌, ◌≤◌, Some, None, length, vec_capacity, sym, ap, subst, ◌∙◌, arith}
use Rattle.lp_tasks.specs.inside.Deep.{deep_at, with_deep, IsRecorded}
use Rattle.lp_tasks.proofs.KeptLemmas.{slot-recorded, slot-task, no_task-past}
use Rattle.lp_tasks.proofs.task_table.TaskTable.get.Goals as goal

pub view-requires : goal.view-requires
view-requires c =
    let i = c.self.inside in
    let made : c.args.task.0 < length i.slots.items = omega arith in
    let read = rw c.from-at.ensures at c.index.ensures in
    let was : c.index.result.now ≡ Some c.in-Some.live = c.in-Some.is in
    subst (λ o. IsRecorded o (deep_at i.deep c.args.task.0)) was (slot-recorded i.slots.items (vec_capacity i.slots) (deep_at i.deep) i.live i.used i.members c.self.invariant c.args.task.0 made c.index.result.now read)

pub returns-in-Some-clause-value : goal.returns-in-Some-clause-value
returns-in-Some-clause-value c =
    let i = c.self.inside in
    let made : c.args.task.0 < length i.slots.items = omega arith in
    let read = rw c.from-at.ensures at c.index.ensures in
    let was : c.index.result.now ≡ Some c.in-Some.live = c.in-Some.is in
    rw (← c.self.view_is) (c.view.ensures ∙ sym (slot-task i.slots.items (vec_capacity i.slots) (deep_at i.deep) i.live i.used i.members c.self.invariant c.args.task.0 made c.index.result.now read ∙ ap (λ o. with_deep o (deep_at i.deep c.args.task.0)) was))

pub returns-in-None-clause-value : goal.returns-in-None-clause-value
returns-in-None-clause-value c =
    let i = c.self.inside in
    let made : c.args.task.0 < length i.slots.items = omega arith in
    let read = rw c.from-at.ensures at c.index.ensures in
    let was : c.index.result.now ≡ None = c.in-None.is in
    rw (← c.self.view_is) (sym (slot-task i.slots.items (vec_capacity i.slots) (deep_at i.deep) i.live i.used i.members c.self.invariant c.args.task.0 made c.index.result.now read ∙ ap (λ o. with_deep o (deep_at i.deep c.args.task.0)) was))

pub returns-then-at-len-clause-value : goal.returns-then-at-len-clause-value
returns-then-at-len-clause-value c =
    let i = c.self.inside in
    let past : length i.slots.items ≤ c.args.task.0 = omega arith in
    rw (← c.self.view_is) (sym (no_task-past i.slots.items (deep_at i.deep) c.args.task.0 past))
