-- What the check has found of a line so far.
use Rattle.std.specs.Prelude.{◌≡◌, ℕ, ◌<◌, Bool, true, ◌&&◌, List, None, length, slice_index_or}
use Rattle.lp_model.specs.Rules.{Rules}
use Rattle.lp_definitions.specs.Leg.{Leg}
use Rattle.lp_definitions.specs.declared.line.Line.{Line}
use Rattle.lp_checker.specs.declared.marks.Mark.{Mark}
use Rattle.lp_checker.specs.declared.marks.Mark.TheVariants.{Open, Blamed, Sound}
use Rattle.lp_definitions.specs.Judgement.{Section, blame_at, is_busy, lies_in, line_test, moment_of}
use Rattle.lp_laws.specs.Blamed.{is_blamed}

module _ (model : Rules) (leg : Leg) (section : Section) where
  -- a busy line lies in the section's time, and its task is busy there
  abbrev pub was_busy : (task at : ℕ) → Bool
  was_busy task at = let moment = moment_of model leg at in lies_in section moment && is_busy (blame_at model leg section.group moment task)

  abbrev pub IsMarked : Line → Mark → Type 0
  IsMarked line Open = Unit {0}
  IsMarked line Blamed = is_blamed model leg section line ≡ true
  IsMarked line Sound = line_test model leg section line ≡ None

  -- a mark for each line
  pub record AreMarked (lines : List Line) (marks : List Mark) : Type 0 where
    pub all : length marks ≡ length lines
    pub each : (i : ℕ) → i < length lines → (line : Line) (mark : Mark) → IsMarked (slice_index_or lines i line) (slice_index_or marks i mark)
