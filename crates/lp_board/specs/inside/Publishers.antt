-- What holds of a publisher between two events.
use Rattle.std.specs.Prelude.{◌≡◌, List, []}
use Rattle.logbook.specs.Pages.{Named}
use Rattle.lp_definitions.specs.declared.event.Event.{Event}
use Rattle.lp_board.specs.declared.sheet.Page.{Page}
use Rattle.lp_board.specs.declared.sheet.Sheet.{Sheet}
use Rattle.lp_board.specs.Names.{Name}
use Rattle.lp_board.specs.inside.History.{head_of}
use Rattle.lp_board.specs.Pages.{IsPage}

module _ {N : Type 0} where
  -- a sheet as plain data
  abbrev pub page_of : Sheet N → Page
  page_of s = record { levels = s.levels; heading = s.heading; events = s.prefix }

-- it has the word of the desk's history, and what is shown is the page of the events, with nothing pending
pub record IsPublished {O : Type 0} (name : Name) (head : Named) (events : List Event) (shown : Page) (pending : List O) : Type 0 where
  pub head_is : head ≡ head_of name.book
  pub events_are : shown.events ≡ events
  pub page_is : IsPage name shown
  pub none_pending : pending ≡ []
