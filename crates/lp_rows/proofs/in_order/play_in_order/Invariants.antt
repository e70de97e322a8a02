use Rattle.lp_board.specs.Blanks.{name_of}
use Rattle.lp_rows.proofs.in_order.play_in_order.Given as goal

-- the desk that starts as the blank which was just made
abbrev pub ghosts-play_blank : goal.ghosts-play_blank
ghosts-play_blank g a = record { desk = name_of g.M.Consistency.rules a.blank }
