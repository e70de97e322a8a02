use Rattle.std.proofs.Common.{◌<◌, ◌≤◌, length, Some, refl, ap, arith}
use Rattle.lp_machine.specs.Machine.{put_in}
use Rattle.lp_checker.proofs.Tables.{kept-changed, leg_tasks-kept, leg_tasks-absent}
use Rattle.lp_checker.proofs.fold.table.FoldedTable.set_mode.Goals.{in-Some, in_default}
use Rattle.lp_checker.proofs.fold.table.FoldedTable.set_mode.Goals as goal

pub returns-then-place-len : goal.returns-then-place-len
returns-then-place-len c =
    let past : length c.self.inside.slots.items ≤ c.from-place.result = omega arith in
    rw (← c.self.view_is, ← c.from-place.ensures) (leg_tasks-absent c.self.inside.slots.items c.self.inside.used c.from-place.result (put_in c.args.mode) past)

pub invariant_of-self : goal.invariant_of-self
invariant_of-self c =
    let h : c.from-place.result < length c.self.inside.slots.items = omega arith in
    elim c.match-index_mut.branch [
      | in-Some w ↦ rw w.self-inside-is (kept-changed c.self.inside.slots.items c.self.inside.used c.self.inside.members.items c.self.invariant c.from-place.result h c.index_mut.result.now _ (put_in c.args.mode) c.index_mut.ensures.value (rw w.in-Some.is (ap Some w.set_mode.ensures)) (λ x. refl))
      | in_default w ↦ rw w.self-inside-is (kept-changed c.self.inside.slots.items c.self.inside.used c.self.inside.members.items c.self.invariant c.from-place.result h c.index_mut.result.now _ (put_in c.args.mode) c.index_mut.ensures.value (rw w.in_default.is refl) (λ x. refl))
    ]

pub returns : goal.returns
returns c =
    let h : c.from-place.result < length c.self.inside.slots.items = omega arith in
    elim c.match-index_mut.branch [
      | in-Some w ↦ rw (w.self-inside-is, ← c.self.view_is, ← c.from-place.ensures) (leg_tasks-kept c.self.inside.slots.items c.self.inside.used c.self.inside.members.items c.self.invariant c.from-place.result h c.index_mut.result.now _ (put_in c.args.mode) c.index_mut.ensures.value (rw w.in-Some.is (ap Some w.set_mode.ensures)))
      | in_default w ↦ rw (w.self-inside-is, ← c.self.view_is, ← c.from-place.ensures) (leg_tasks-kept c.self.inside.slots.items c.self.inside.used c.self.inside.members.items c.self.invariant c.from-place.result h c.index_mut.result.now _ (put_in c.args.mode) c.index_mut.ensures.value (rw w.in_default.is refl))
    ]
