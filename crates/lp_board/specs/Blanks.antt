-- A board that has no name yet, and the name that a desk over it can have.
use Rattle.std.specs.Prelude.{ℕ, ◌<◌, ◌≤◌, List}
use Rattle.logbook.specs.Pages.{Book}
use Rattle.lp_stack.specs.declared.number.TaskId.{TaskId}
use Rattle.lp_stack.specs.declared.view.Class.{Class}
use Rattle.lp_model.specs.Rules.{Rules}
use Rattle.lp_patch.specs.Patches.{Patches}
use Rattle.lp_board.specs.Names.{Name}

-- how a desk starts, where its events are kept, and how many readers its board has
pub record BlankStart : Type 0 where
  pub patches : Patches
  pub boots : List (TaskId × Class)
  pub book : Book
  pub readers : ℕ

-- the name that a desk of this model can have which begins so
abbrev pub name_of : Rules → BlankStart → Name
name_of model b = record { model = model; patches = b.patches; boots = b.boots; book = b.book }

-- a board may have so many readers, and a desk so many workers
pub record IsCrew (count : ℕ) : Type 0 where
  pub some : 0 < count
  pub few : count ≤ 64
