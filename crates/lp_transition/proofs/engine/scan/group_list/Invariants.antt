use Rattle.std.proofs.Common.{◌≡◌, ◌++◌}
use Rattle.lp_numbers.specs.Numbers.{has}
use Rattle.lp_definitions.specs.Events.{group_numbers}
use Rattle.lp_tasks.specs.Passing.{passing}
use Rattle.lp_transition.proofs.engine.scan.group_list.Given as goal

-- the groups so far, and those still to come
abbrev pub invariant-loop-number : goal.invariant-loop-number
invariant-loop-number l = group_numbers l.groups.items ++ l.number-iterator ≡ passing 0 65536 (has l.set)
