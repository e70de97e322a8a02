-- The lines of a busy member, and what they have in common.
use Rattle.std.specs.Prelude.{◌≡◌, ℕ, List, [], ◌∷◌, ◌++◌, decimal}
use Rattle.lp_stack.specs.declared.number.GroupId.{GroupId}
use Rattle.lp_stack.specs.declared.number.TaskId.{TaskId}
use Rattle.lp_definitions.specs.declared.line.Line.TheVariants.{Busy}
use Rattle.lp_text.specs.CertTexts.{reason_words}
use Rattle.lp_text.specs.Words.{line_of}

-- the text with an event and the line's end after it is the line of the member at that event
pub record IsBusyText (group : GroupId) (task : TaskId) (text : List ℕ) : Type 0 where
  pub line : (at : ℕ) → text ++ (decimal at ++ 10 ∷ []) ≡ line_of (reason_words (Busy group task at))
