use Rattle.std.proofs.Common.{◌<◌, ◌≤◌, length, Some, refl, ap, ◌∙◌, arith}
use Rattle.lp_machine.specs.Machine.{calling}
use Rattle.lp_checker.proofs.Tables.{slot-here, where_ok, where_ok-is, where_ok-group, where_ok-on, where_ok-off, kept-changed, leg_tasks-kept, leg_tasks-absent}
use Rattle.lp_checker.proofs.fold.table.FoldedTable.call.Goals.{in-Some, in-None}
use Rattle.lp_checker.proofs.fold.table.FoldedTable.call.Goals as goal

pub returns-then-place-len-clause-called : goal.returns-then-place-len-clause-called
returns-then-place-len-clause-called c =
    let past : length c.self.inside.slots.items ≤ c.from-place.result = omega arith in
    rw (← c.self.view_is, ← c.from-place.ensures) (leg_tasks-absent c.self.inside.slots.items c.self.inside.used c.from-place.result (calling c.args.serial c.args.func) past)

pub call-requires : goal.call-requires
call-requires c =
    let i = c.self.inside in
    let h : c.from-place.result < length i.slots.items = omega arith in
    c.requires c.in-Some.live (rw (← c.self.view_is, ← c.from-place.ensures) (slot-here i.slots.items i.used i.members.items c.self.invariant c.from-place.result h c.index_mut.result.now c.index_mut.ensures.value ∙ c.in-Some.is))

pub invariant_of-self : goal.invariant_of-self
invariant_of-self c =
    let h : c.from-place.result < length c.self.inside.slots.items = omega arith in
    elim c.match-index_mut.branch [
      | in-Some w ↦ rw w.self-inside-is (kept-changed c.self.inside.slots.items c.self.inside.used c.self.inside.members.items c.self.invariant c.from-place.result h c.index_mut.result.now _ (where_ok w.call.result (calling c.args.serial c.args.func)) c.index_mut.ensures.value (rw w.in-Some.is (ap Some (where_ok-is w.call.result (calling c.args.serial c.args.func) _ _ w.call.ensures.called w.call.ensures.unchanged))) (where_ok-group w.call.result (calling c.args.serial c.args.func) (λ x. refl)))
      | in-None w ↦ rw w.self-inside-is (kept-changed c.self.inside.slots.items c.self.inside.used c.self.inside.members.items c.self.invariant c.from-place.result h c.index_mut.result.now _ (calling c.args.serial c.args.func) c.index_mut.ensures.value (rw w.in-None.is refl) (λ x. refl))
    ]

pub returns-clause-called : goal.returns-clause-called
returns-clause-called c =
    let h : c.from-place.result < length c.self.inside.slots.items = omega arith in
    elim c.match-index_mut.branch [
      | in-Some w ↦ rw (w.result-is, w.self-inside-is, ← c.self.view_is, ← c.from-place.ensures) (where_ok-on w.call.result (calling c.args.serial c.args.func) c.from-place.result _ _ (leg_tasks-kept c.self.inside.slots.items c.self.inside.used c.self.inside.members.items c.self.invariant c.from-place.result h c.index_mut.result.now _ (where_ok w.call.result (calling c.args.serial c.args.func)) c.index_mut.ensures.value (rw w.in-Some.is (ap Some (where_ok-is w.call.result (calling c.args.serial c.args.func) _ _ w.call.ensures.called w.call.ensures.unchanged)))))
      | in-None w ↦ rw (w.result-is, w.self-inside-is, ← c.self.view_is, ← c.from-place.ensures) (leg_tasks-kept c.self.inside.slots.items c.self.inside.used c.self.inside.members.items c.self.invariant c.from-place.result h c.index_mut.result.now _ (calling c.args.serial c.args.func) c.index_mut.ensures.value (rw w.in-None.is refl))
    ]

pub returns-clause-unchanged : goal.returns-clause-unchanged
returns-clause-unchanged c =
    let h : c.from-place.result < length c.self.inside.slots.items = omega arith in
    elim c.match-index_mut.branch [
      | in-Some w ↦ rw (w.result-is, w.self-inside-is, ← c.self.view_is) (where_ok-off w.call.result (calling c.args.serial c.args.func) c.from-place.result _ _ (leg_tasks-kept c.self.inside.slots.items c.self.inside.used c.self.inside.members.items c.self.invariant c.from-place.result h c.index_mut.result.now _ (where_ok w.call.result (calling c.args.serial c.args.func)) c.index_mut.ensures.value (rw w.in-Some.is (ap Some (where_ok-is w.call.result (calling c.args.serial c.args.func) _ _ w.call.ensures.called w.call.ensures.unchanged)))))
      | in-None w ↦ rw w.result-is tt
    ]
