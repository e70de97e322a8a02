use Rattle.std.proofs.Common.{◌≡◌, ◌++◌, map}
use Rattle.lp_numbers.specs.Numbers.{has}
use Rattle.lp_tasks.specs.Passing.{passing}
use Rattle.lp_board.proofs.LiveTasks.{entry}
use Rattle.lp_board.proofs.levels.shown_of.Given as goal

-- what is shown so far, and of those still to come
abbrev pub invariant-loop-number : goal.invariant-loop-number
invariant-loop-number l = l.tasks.items ++ map (entry l.heading l.levels) l.number-iterator ≡ map (entry l.heading l.levels) (passing 0 65536 (has l.live))
