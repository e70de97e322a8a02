use Rattle.std.proofs.Common.{◌≡◌, length, refl, ap, arith}
use Rattle.lp_tasks.proofs.task_table.TaskTable.copy.Goals as goal

pub invariant_of-result : goal.invariant_of-result
invariant_of-result c =
    let copied = c.in_ok-copied_slots.field-0.items in
    let slots = c.self.inside.slots.items in
    let same : copied ≡ slots = rw c.as_slice.ensures.value at c.in_ok-copied_slots.ensures.same in
    let long : length copied ≡ length slots = ap length same in
    record {
      few = omega (arith, c.self.invariant.few);
      room = c.in_ok-copied_slots.ensures.room;
      kept = rw (same, c.in_ok-copy.ensures, c.in_ok-copy-2.ensures.same, c.in_ok-copy-3.ensures.same, c.in_ok-copy-4.ensures) c.self.invariant.kept;
    }

pub returns : goal.returns
returns c =
    let copied = c.in_ok-copied_slots.field-0.items in
    let slots = c.self.inside.slots.items in
    let same : copied ≡ slots = rw c.as_slice.ensures.value at c.in_ok-copied_slots.ensures.same in
    rw (← c.self.view_is, c.in_ok-copy.ensures, c.in_ok-copy-3.ensures.same, same) refl
