-- What holds of the parts of a board that has no name yet.
use Rattle.std.specs.Prelude.{◌≡◌, ℕ, List, [], map, Option}
use Rattle.std.specs.List.{range_with_len}
use Rattle.logbook.specs.Pages.{Named}
use Rattle.lp_stack.specs.declared.number.Level.{Level}
use Rattle.lp_patch.specs.Patches.{Patches}
use Rattle.lp_definitions.specs.declared.event.Event.{Event}
use Rattle.lp_machine.specs.Steps.{StandsIn}
use Rattle.lp_machine.specs.Table.{Engine, leg_tasks, state_in}
use Rattle.lp_board.specs.declared.sheet.Page.{Page}
use Rattle.lp_board.specs.Names.{Name, run_of}
use Rattle.lp_board.specs.Pages.{IsPageOf, level_of}
use Rattle.lp_board.specs.Blanks.{IsCrew}
use Rattle.lp_board.specs.inside.History.{head_of}

-- the level of each task number
unfoldable pub levels_of : Engine → List (Option Level)
levels_of core = map (λ t. level_of (leg_tasks core.table t)) (range_with_len 0 65536)

-- the engine is at the start, of which both sheets are pages, and the history is empty
pub record IsBlank (name : Name) (core : Engine) (patches : Patches) (first second : Page) (events : List Event) (head : Named) (readers : ℕ) : Type 0 where
  pub patches_are : patches ≡ core.patches
  pub stands : StandsIn name.model (run_of name []) (state_in core)
  pub first_is : IsPageOf first (state_in core)
  pub second_is : second ≡ first
  pub first_events : first.events ≡ []
  pub no_events : events ≡ []
  pub head_is : head ≡ head_of name.book
  pub crew : IsCrew readers
