use Rattle.std.proofs.Common.{◌≡◌, ◌≤◌, ◌-◌, length, vec_len, vec_capacity}
use Rattle.lp_tasks.specs.inside.Slots.{padded}
use Rattle.lp_tasks.proofs.task_table.reach.Given as goal

-- the new slots so far have no task
abbrev pub invariant-loop-slots : goal.invariant-loop-slots
invariant-loop-slots l = record {
  few : length l.slots.items ≤ 65536;
  room : vec_capacity l.slots ≡ vec_capacity l.fn.slots;
  same : padded l.slots.items ≡ padded l.fn.slots.items;
}

abbrev pub decreases-loop-slots : goal.decreases-loop-slots
decreases-loop-slots l = 65536 - vec_len l.slots
