use Rattle.std.proofs.Common.{length}
use Rattle.std.specs.List.{AllByRecursion}
use Rattle.lp_numbers.specs.Numbers.{has}
use Rattle.lp_tasks.specs.Passing.{passing}
use Rattle.lp_cert.specs.inside.Waiters.{IsBare, StandsAt}
use Rattle.lp_cert.proofs.waiters.are_bare.Given as goal

-- those that are left stand, and all are bare if those are
abbrev pub invariant-loop-number : goal.invariant-loop-number
invariant-loop-number l = record {
  stand : AllByRecursion (StandsAt (length l.reasons.scans) l.reasons) l.number-iterator;
  bare : AllByRecursion (IsBare l.reasons) l.number-iterator → AllByRecursion (IsBare l.reasons) (passing 0 65536 (has l.groups));
}
