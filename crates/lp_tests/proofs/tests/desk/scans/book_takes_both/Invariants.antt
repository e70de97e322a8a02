use Rattle.lp_model.specs.Row.{rules_of}
use Rattle.lp_models.specs.Models.{hybrid}
use Rattle.lp_board.specs.Blanks.{name_of}
use Rattle.lp_tests.proofs.tests.desk.scans.book_takes_both.Given as goal

abbrev pub ghosts-in_a_book : goal.ghosts-in_a_book
ghosts-in_a_book g a = record { desk = name_of (rules_of hybrid) a.blank }
