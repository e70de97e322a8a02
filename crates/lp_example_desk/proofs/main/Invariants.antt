use Rattle.lp_model.specs.Row.{rules_of}
use Rattle.lp_models.specs.Models.{hybrid}
use Rattle.lp_board.specs.Blanks.{name_of}
use Rattle.lp_example_desk.proofs.main.Given as goal

-- the desk that starts as the blank which was just made
abbrev pub ghosts-play : goal.ghosts-play
ghosts-play g a = record { desk = name_of (rules_of hybrid) a.blank }
