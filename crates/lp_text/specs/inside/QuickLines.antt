-- Lines that are read without a look at each word.
use Rattle.std.specs.Prelude.{◌≡◌, ℕ, ◌+◌, ◌<◌, true, List, ◌++◌, length}
use Rattle.lp_definitions.specs.declared.event.Event.{Event}
use Rattle.lp_definitions.specs.declared.line.Line.{Line}
use Rattle.lp_text.specs.CertTexts.{reason_words}
use Rattle.lp_text.specs.CheckTexts.{IsReason}
use Rattle.lp_text.specs.Words.{line_of, lines}
use Rattle.lp_text.specs.declared.form.TraceForm.TheVariants.{Single}
use Rattle.lp_text.specs.Traces.{TraceValue, IsEvent, has_event, event_words}
use Rattle.lp_text.specs.Reading.{reading_from}

-- a text begins with the line of an event that has a word in each text, and this stands after the line
abbrev pub BeginsWith : List (List ℕ) → List ℕ → Event → List ℕ → Type 0
BeginsWith symbols text event rest = (IsEvent (length symbols) event × (has_event Single event ≡ true)) × (text ≡ line_of (event_words symbols event) ++ rest)

-- a text begins with the line of a reason, and this stands after the line
abbrev pub BeginsWithReason : List ℕ → Line → List ℕ → Type 0
BeginsWithReason text reason rest = IsReason reason × (text ≡ line_of (reason_words reason) ++ rest)

-- a line of a text was taken: what is read of the text is what is read of its rest, whatever follows
pub record IsTaken (so_far new : TraceValue) (text rest : List ℕ) : Type 0 where
  pub shorter : length rest < length text
  pub reads : (number : ℕ) (bytes : List ℕ) → reading_from number so_far (lines (text ++ bytes)) ≡ reading_from (number + 1) new (lines (rest ++ bytes))
