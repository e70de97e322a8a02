use Rattle.lp_model.specs.Row.{rules_of}
use Rattle.lp_models.specs.Models.{hybrid}
use Rattle.lp_board.specs.Blanks.{name_of}
use Rattle.lp_rows.proofs.cost.through_owned.owned.Given as goal

-- the desk that starts as the blank which was just made, and the list of its parts
abbrev pub ghosts-through-N-DeskName : goal.ghosts-through-N-DeskName
ghosts-through-N-DeskName g a = record { desk = name_of (rules_of hybrid) a.blank.start }

abbrev pub ghosts-through-N-Place : goal.ghosts-through-N-Place
ghosts-through-N-Place g a = record { table = a.blank.table }
