use Rattle.std.proofs.Common.{◌≡◌, [], length}
use Rattle.lp_threads.specs.inside.Dealt.{IsDealt}
use Rattle.lp_threads.proofs.scripts.no_scripts.Given as goal

-- an empty script for each number so far
abbrev pub invariant-loop-task : goal.invariant-loop-task
invariant-loop-task l = (length l.scripts.items ≡ l._task) × IsDealt [] l.scripts.items []
