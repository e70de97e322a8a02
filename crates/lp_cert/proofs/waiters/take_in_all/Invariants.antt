use Rattle.std.proofs.Common.{◌≡◌, ℕ, ◌≤◌, length}
use Rattle.lp_numbers.specs.Numbers.{has}
use Rattle.lp_tasks.specs.Passing.{passing}
use Rattle.lp_cert.specs.inside.Waiters.{AreTakenIn}
use Rattle.lp_cert.proofs.waiters.take_in_all.Given as goal

-- the groups before those that are left are in
abbrev pub invariant-loop-number : goal.invariant-loop-number
invariant-loop-number g l = record {
  from : ℕ;
  fits : from ≤ 65536;
  rest : l.number-iterator ≡ passing from 65536 (has l.fn.named);
  numbers : length l.groups ≡ 65536;
  taken : AreTakenIn l.core.table l.level.0 from l.groups l.fn.reasons l.reasons;
}
