-- How the check keeps which events a section's lines cover.
use Rattle.std.specs.Prelude.{◌≡◌, ℕ, ◌-◌, ◌<◌, ◌≤◌, Bool, false, ◌&&◌, List, Option, Some, None, nat_le, slice_index}
use Rattle.std.specs.List.{list_any}
use Rattle.lp_definitions.specs.declared.line.Line.{Line}
use Rattle.lp_definitions.specs.declared.line.Line.TheVariants.{Hold, Busy, Born}
use Rattle.lp_checker.specs.declared.gaps.Span.{Span}

-- the events that a line tells of, as the run numbers them
abbrev pub span_of : Line → Option Span
span_of (Hold group task serial from to) = Some (record { from = from; to = to })
span_of (Busy group task at) = Some (record { from = at; to = at })
span_of (Born group parent at) = None

-- with so many events up to the opening, and so many more up to the section: the place of a span's begin in the section
-- passes a test, and the span ends no earlier than a moment
abbrev pub spans_to : (number begin : ℕ) → (ℕ → Bool) → ℕ → Option Span → Bool
spans_to number begin test moment None = false
spans_to number begin test moment (Some span) = test (span.from - number - begin) && nat_le moment (span.to - number)

-- one of the lines has such a span
abbrev pub some_spans_to : (number begin : ℕ) → (ℕ → Bool) → ℕ → List Line → Bool
some_spans_to number begin test moment lines = list_any (λ line. spans_to number begin test moment (span_of line)) lines

-- the last moments of the spans, by the place from 0 up to the last one
abbrev pub AreEnds : (number begin last : ℕ) → (ℕ → ℕ → Bool) → List Line → List ℕ → Type 0
AreEnds number begin last test lines ends =
    (place moment : ℕ) → place ≤ last → 0 < moment →
    nat_le moment (slice_index ends place) ≡ some_spans_to number begin (test place) moment lines
