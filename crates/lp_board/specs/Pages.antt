-- A sheet of the board as plain data, and what an event changes of it.
use Rattle.std.specs.Prelude.{◌≡◌, ℕ, ◌<◌, List, [], ◌∷◌, length, Option, Some, None, if◌then◌else◌, nat_eq, slice_index_or, slice_set}
use Rattle.lp_stack.specs.declared.number.Level.{Level}
use Rattle.lp_stack.specs.declared.number.TaskId.{TaskId}
use Rattle.lp_definitions.specs.Tasks.{Fate, Unused, Live, Dead}
use Rattle.lp_definitions.specs.Leg.{LegTask, State}
use Rattle.lp_board.specs.declared.shown.Shown.{Shown}
use Rattle.lp_board.specs.declared.shown.Shown.TheVariants.{Absent}
use Rattle.lp_board.specs.declared.sheet.Heading.{Heading}
use Rattle.lp_board.specs.declared.sheet.Page.{Page}
use Rattle.lp_board.specs.declared.sheet.Update.{Update}
use Rattle.lp_board.specs.declared.sheet.Change.{Change}
use Rattle.lp_board.specs.Words.{shown_on, is_in_transition, lower_level}
use Rattle.lp_board.specs.Names.{Name, state_after}

-- ---- What is kept of a state

-- the level of a live task
abbrev pub level_of : Fate LegTask → Option Level
level_of Unused = None
level_of (Live x) = Some (record { 0 = x.level })
level_of Dead = None

-- the heading of a state
pub record IsHeading (heading : Heading) (s : State) : Type 0 where
  pub in_transition : heading.in_transition ≡ is_in_transition s
  pub lower : heading.lower.0 ≡ lower_level s

-- the level of each task number, and the heading
pub record IsPageOf (page : Page) (s : State) : Type 0 where
  pub wide : length page.levels ≡ 65536
  pub levels : (t : ℕ) → t < 65536 → slice_index_or page.levels t None ≡ level_of (s.tasks t)
  pub heading : IsHeading page.heading s

-- the page is that of the state after the events that it stands for
abbrev pub IsPage : Name → Page → Type 0
IsPage name page = IsPageOf page (state_after name page.events)

-- ---- What a page shows

-- what is shown of a task on this level, under this heading
abbrev pub shown_by : Heading → Option Level → Shown
shown_by heading None = Absent
shown_by heading (Some level) = shown_on heading.in_transition heading.lower.0 level.0

-- what a page shows of a task number
abbrev pub shown_at : Page → ℕ → Shown
shown_at page t = shown_by page.heading (slice_index_or page.levels t None)

-- ---- What an event changes

-- the levels with each of these written, in order
abbrev pub written : List (Option Level) → List (TaskId × Option Level) → List (Option Level)
written levels [] = levels
written levels (m ∷ ms) = written (slice_set levels m.0.0 m.1) ms

-- the level that a task has once these are written
abbrev pub level_by : List (TaskId × Option Level) → ℕ → Option Level → Option Level
level_by [] t level = level
level_by (m ∷ ms) t level = level_by ms t (if nat_eq m.0.0 t then m.1 else level)

-- from one state to another these levels change, and the heading becomes this one
pub record Leads (s : State) (update : Update) (next : State) : Type 0 where
  pub levels : (t : ℕ) → t < 65536 → level_by update.levels.items t (level_of (s.tasks t)) ≡ level_of (next.tasks t)
  pub heading : IsHeading update.heading next

module _ {N : Type 0} where
  -- the page once the change is written
  abbrev pub page_after : Page → Change N → Page
  page_after p c = record { levels = written p.levels c.update.levels.items; heading = c.update.heading; events = c.prefix }
