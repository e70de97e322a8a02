use Rattle.lp_board.specs.Blanks.{name_of}
use Rattle.lp_tests.proofs.tests.desk.run.with_desk.Given as goal

-- the desk that starts as the blank which was just made
abbrev pub ghosts-played : goal.ghosts-played
ghosts-played g a = record { desk = name_of g.M.Consistency.rules a.blank }
