use Rattle.std.proofs.Common.{◌≡◌, drop}
use Rattle.lp_board.specs.Pages.{written}
use Rattle.lp_board.proofs.levels.Levels.write.Given as goal

abbrev pub invariant-loop-task : goal.invariant-loop-task
invariant-loop-task l = written l.self (drop l.task-index l.news) ≡ written l.fn.self l.news
