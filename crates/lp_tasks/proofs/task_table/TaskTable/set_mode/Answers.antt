use Rattle.std.proofs.Common.{◌<◌, ◌≤◌, length, vec_capacity, List, Option, refl, ap, arith}
use Rattle.lp_machine.specs.Machine.{put_in}
use Rattle.lp_definitions.specs.Leg.{LegTask}
use Rattle.lp_tasks.specs.inside.Deep.{deep_at}
use Rattle.lp_tasks.proofs.KeptLemmas.{slots-plain, kept-plain, unchanged-past}
use Rattle.lp_tasks.proofs.task_table.TaskTable.set_mode.Goals as goal
use Rattle.lp_tasks.proofs.task_table.TaskTable.set_mode.Goals.{in-Some, in_default}

pub invariant_of-self : goal.invariant_of-self
invariant_of-self c =
    let i = c.self.inside in
    let made : c.from-at.result < length i.slots.items = omega arith in
    elim c.match-index_mut.branch [
      | in-Some w ↦ rw w.self-inside-is (kept-plain i.slots.items (vec_capacity i.slots) (deep_at i.deep) i.live i.used i.members c.self.invariant c.from-at.result made c.index_mut.result.now c.index_mut.ensures.value _ (put_in c.args.mode) (λ x. refl) (λ x frames. refl) (rw w.in-Some.is (rw w.set_mode.ensures refl)) (λ x. refl))
      | in_default w ↦ rw w.self-inside-is (kept-plain i.slots.items (vec_capacity i.slots) (deep_at i.deep) i.live i.used i.members c.self.invariant c.from-at.result made c.index_mut.result.now c.index_mut.ensures.value _ (put_in c.args.mode) (λ x. refl) (λ x frames. refl) (rw w.in_default.is refl) (λ x. refl))
    ]

pub returns : goal.returns
returns c =
    let i = c.self.inside in
    let made : c.from-at.result < length i.slots.items = omega arith in
    elim c.match-index_mut.branch [
      | in-Some w ↦ rw (w.self-inside-is, ← c.self.view_is, ← c.from-at.ensures) (ap (λ (slots : List (Option LegTask)). record { slots = slots; used = i.used }) (slots-plain i.slots.items (vec_capacity i.slots) (deep_at i.deep) i.live i.used i.members c.self.invariant c.from-at.result made c.index_mut.result.now c.index_mut.ensures.value _ (put_in c.args.mode) (λ x. refl) (λ x frames. refl) (rw w.in-Some.is (rw w.set_mode.ensures refl))))
      | in_default w ↦ rw (w.self-inside-is, ← c.self.view_is, ← c.from-at.ensures) (ap (λ (slots : List (Option LegTask)). record { slots = slots; used = i.used }) (slots-plain i.slots.items (vec_capacity i.slots) (deep_at i.deep) i.live i.used i.members c.self.invariant c.from-at.result made c.index_mut.result.now c.index_mut.ensures.value _ (put_in c.args.mode) (λ x. refl) (λ x frames. refl) (rw w.in_default.is refl)))
    ]

pub returns-then-at-len : goal.returns-then-at-len
returns-then-at-len c =
    let i = c.self.inside in
    let past : length i.slots.items ≤ c.from-at.result = omega arith in
    rw (← c.self.view_is, ← c.from-at.ensures) (ap (λ (slots : List (Option LegTask)). record { slots = slots; used = i.used }) (unchanged-past i.slots.items (deep_at i.deep) c.from-at.result past (put_in c.args.mode)))
