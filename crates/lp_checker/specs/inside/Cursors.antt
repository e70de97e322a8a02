-- Where a cursor in a leg stands.
use Rattle.std.specs.Prelude.{◌≡◌, ℕ, ◌+◌, ◌<◌, ◌≤◌, pred, length, List, Option}
use Rattle.lp_model.specs.Rules.{Rules}
use Rattle.lp_definitions.specs.declared.event.Event.{Event}
use Rattle.lp_definitions.specs.Leg.{Leg, accepted}
use Rattle.lp_machine.specs.Table.{Engine}
use Rattle.lp_checker.specs.declared.fold.Fold.{Fold}
use Rattle.lp_checker.specs.Folds.{leg_with}
use Rattle.lp_checker.specs.inside.Folds.{IsAt}

-- the opening of a leg, the events after it, and how many of them are taken at most
pub record Range : Type 0 where
  pub opening : Engine
  pub events : List Event
  pub end : ℕ

-- the leg
abbrev pub leg_in : Range → Leg
leg_in range = leg_with range.opening range.events

-- a cursor that has taken this many events
pub record Reached : Type 0 where
  pub range : Range
  pub moment : ℕ

-- the fold has taken the events up to the moment, the last of which is this one
pub record IsReached (model : Rules) (range : Range) (moment : ℕ) (taken : Option Event) (fold : Fold) : Type 0 where
  pub at : IsAt model range.opening range.events moment fold
  pub event : 0 < moment → taken ≡ accepted model (leg_in range) (pred moment)
  pub reached : moment ≤ range.end
  pub within : range.end ≤ length range.events
  pub room : range.opening.number + range.end ≤ 1000000
