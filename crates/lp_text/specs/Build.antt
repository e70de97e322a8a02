-- Parts that are to make a trace, and the first of them that has no spelling.
use Rattle.std.specs.Prelude.{◌≡◌, ℕ, ◌+◌, List, [], ◌∷◌, length, map, nat_lt, if◌then◌else◌, Result, Ok, Err}
use Rattle.lp_symbols.specs.declared.sym_id.SymId.{SymId}
use Rattle.lp_stack.specs.declared.number.TaskId.{TaskId}
use Rattle.lp_stack.specs.declared.view.Class.{Class}
use Rattle.lp_definitions.specs.declared.event.Event.{Event}
use Rattle.lp_text.specs.declared.form.TraceForm.{TraceForm}
use Rattle.lp_text.specs.declared.fault.Cause.{Cause}
use Rattle.lp_text.specs.declared.fault.Cause.TheVariants.{Long}
use Rattle.lp_text.specs.declared.of.OfFault.{OfFault}
use Rattle.lp_text.specs.declared.of.OfFault.TheVariants.{Unwritable, NoMemory}
use Rattle.lp_text.specs.Traces.{TraceValue, lines_after_header, text_of}
use Rattle.lp_text.specs.Reading.{◌>>=◌, empty, with_line}

-- the parts of a trace in a text of this form
abbrev pub of_parts : TraceForm → List (List ℕ) → List (List SymId) → List (TaskId × Class) → List Event → TraceValue
of_parts form symbols patches boots events = record { form = form; symbols = symbols; patches = patches; boots = boots; events = events }

-- ---- The lines that parts ask for

-- where a patch has no function, one is asked for that is no symbol
abbrev pub asked_patch : ℕ → List SymId → List SymId
asked_patch symbols [] = record { 0 = symbols } ∷ []
asked_patch symbols (func ∷ funcs) = func ∷ funcs

-- where there is no patch, one without functions is asked for
abbrev pub asked_patches : ℕ → List (List SymId) → List (List SymId)
asked_patches symbols [] = asked_patch symbols [] ∷ []
asked_patches symbols (patch ∷ patches) = map (asked_patch symbols) (patch ∷ patches)

-- a line for each symbol, each function of each patch, each boot task and each event. No symbol has
-- no name, so a function that is none asks for a line that no reader takes
abbrev pub asked_lines : TraceValue → List (List (List ℕ))
asked_lines parts = lines_after_header (record parts { patches = asked_patches (length parts.symbols) parts.patches })

-- ---- Which of them can stand

-- what is given with one line more, as a reader takes it, of a text that stays within its size
unfoldable pub spelled : TraceValue → List (List ℕ) → Result TraceValue Cause
spelled so_far line = do
  given ← with_line so_far line
  if nat_lt 134217728 (length (text_of given)) then Err Long else Ok given

-- a cause at a place
abbrev pub at_place : {A : Type 0} → ℕ → Result A Cause → Result A ℕ
at_place place (Ok x) = Ok x
at_place place (Err why) = Err place

-- the lines from the one at this place on: what they give, or the first place of one that can't stand
unfoldable pub spelling_from : ℕ → TraceValue → List (List (List ℕ)) → Result TraceValue ℕ
spelling_from place so_far [] = Ok so_far
spelling_from place so_far (line ∷ more) = do
  given ← at_place place (spelled so_far line)
  spelling_from (place + 1) given more

-- the trace of these parts, or the place, from 1 in the order of the lines after the header, of the
-- first part that has no spelling
unfoldable pub spelling : TraceValue → Result TraceValue ℕ
spelling parts = spelling_from 1 (empty parts.form) (asked_lines parts)

-- ---- What a maker in code gives beside the definitions, memory apart

abbrev pub IsOfFault : {Y : Type 0} → OfFault → Result Y ℕ → Type 0
IsOfFault NoMemory spelling = Unit {0}
IsOfFault (Unwritable place) spelling = spelling ≡ Err place

abbrev pub GivesPart : {X Y : Type 0} → (X → Y) → Result X OfFault → Result Y ℕ → Type 0
GivesPart view (Ok x) spelling = spelling ≡ Ok (view x)
GivesPart view (Err e) spelling = IsOfFault e spelling
