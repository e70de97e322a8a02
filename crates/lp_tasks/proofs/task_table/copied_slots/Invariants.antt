use Rattle.std.proofs.Common.{◌≡◌, ◌≤◌, take, length, vec_capacity}
use Rattle.lp_tasks.proofs.task_table.copied_slots.Given as goal

-- the slots so far are copied
abbrev pub invariant-loop-slot : goal.invariant-loop-slot
invariant-loop-slot l = record {
  room : 65536 ≤ vec_capacity l.copied;
  long : length l.copied.items ≡ l.slot-index;
  same : l.copied.items ≡ take l.slot-index l.slots;
}
