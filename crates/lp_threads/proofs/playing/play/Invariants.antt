use Rattle.lp_board.specs.Blanks.{name_of}
use Rattle.lp_threads.proofs.playing.play.Given as goal

-- the desk that starts as the blank which was just made, and the list of its parts
abbrev pub ghosts-play_blank-N-DeskName : goal.ghosts-play_blank-N-DeskName
ghosts-play_blank-N-DeskName g a = record { desk = name_of g.M.Consistency.rules a.blank.value.start }

abbrev pub ghosts-play_blank-N-Place : goal.ghosts-play_blank-N-Place
ghosts-play_blank-N-Place g a = record { table = a.blank.value.table }

-- and the trace that is played
abbrev pub ghosts-play_blank-S-TraceName : goal.ghosts-play_blank-S-TraceName
ghosts-play_blank-S-TraceName g a = record { events = a.trace.now.events }
