use Rattle.std.proofs.Common.{◌<◌, ◌≤◌, length, sym, ◌∙◌, arith}
use Rattle.lp_checker.proofs.Tables.{slot-here, slot-past}
use Rattle.lp_checker.proofs.fold.table.FoldedTable.get.Goals as goal

pub returns-then-place-len-clause-value : goal.returns-then-place-len-clause-value
returns-then-place-len-clause-value c =
    let i = c.self.inside in
    let h : c.from-place.result < length i.slots.items = omega arith in
    rw (← c.self.view_is, ← c.from-place.ensures) (c.as_ref.ensures.value ∙ sym (slot-here i.slots.items i.used i.members.items c.self.invariant c.from-place.result h c.index.result.now c.index.ensures))

pub returns-else-place-len-clause-value : goal.returns-else-place-len-clause-value
returns-else-place-len-clause-value c =
    let past : length c.self.inside.slots.items ≤ c.from-place.result = omega arith in
    rw (← c.self.view_is, ← c.from-place.ensures) (sym (slot-past c.self.inside.slots.items c.from-place.result past))
