use Rattle.std.proofs.Common.{◌≡◌, ◌≤◌, ◌+◌, ◌-◌, length, vec_len}
use Rattle.lp_checker.specs.inside.Tables.{all_slots}
use Rattle.lp_checker.proofs.fold.table.add_slots.Given as goal

-- no slot is taken
abbrev pub invariant-loop-slots : goal.invariant-loop-slots
invariant-loop-slots l = record {
  few : length l.slots.items ≤ 65536;
  same : all_slots l.slots.items ≡ all_slots l.initial.slots.items;
}

abbrev pub decreases-loop-slots : goal.decreases-loop-slots
decreases-loop-slots l = l.place + 1 - vec_len l.slots
