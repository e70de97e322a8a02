use Rattle.std.proofs.Common.{◌≡◌, map, ◌++◌}
use Rattle.lp_numbers.specs.Numbers.{has}
use Rattle.lp_tasks.specs.Passing.{passing}
use Rattle.lp_cert.specs.Waiters.{waiter_in}
use Rattle.lp_cert.proofs.waiters.listed.Given as goal

-- the groups so far, and those still to come
abbrev pub invariant-loop-number : goal.invariant-loop-number
invariant-loop-number l = l.list.items ++ map (waiter_in l.reasons) l.number-iterator ≡ map (waiter_in l.reasons) (passing 0 65536 (has l.groups))
