use Rattle.std.proofs.Common.{◌≡◌, ℕ, ◌<◌, length, take, drop}
use Rattle.lp_numbers.specs.Numbers.{has}
use Rattle.lp_transition.specs.Boot.{boot_fault, boot_refusal}
use Rattle.lp_transition.proofs.BootLemmas.{has_number}
use Rattle.lp_transition.proofs.engine.boot.first_fault.Given as goal

-- the tasks so far are at no fault, and their numbers are those seen
abbrev pub invariant-loop-task : goal.invariant-loop-task
invariant-loop-task l = record {
  count : length l.seen ≡ 65536;
  free : boot_fault (take l.task-index l.tasks) (drop l.task-index l.tasks) ≡ boot_refusal l.tasks;
  marked : (q : ℕ) → q < 65536 → has l.seen q ≡ has_number q (take l.task-index l.tasks);
}
