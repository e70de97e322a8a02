-- Reading a trace text line by line, with the first fault that is met.
use Rattle.std.specs.Prelude.{ℕ, ◌+◌, ◌-◌, ◌&&◌, ◌||◌, not, List, [], ◌∷◌, ◌++◌, length, take, nat_le, nat_lt, ◌==◌, if◌then◌else◌, Option, None, Some, Result, Ok, Err, position, slice_index_or}
use Rattle.std.specs.List.{list_any}
use Rattle.std.specs.Str.{bytes_eq}
use Rattle.lp_symbols.specs.declared.sym_id.SymId.{SymId}
use Rattle.lp_symbols.specs.Names.{is_name}
use Rattle.lp_stack.specs.declared.number.TaskId.{TaskId}
use Rattle.lp_stack.specs.declared.view.Class.{Class}
use Rattle.lp_definitions.specs.declared.event.Event.{Event}
use Rattle.lp_definitions.specs.declared.event.Event.TheVariants.{Call, Ret, Sleep, Wake, Enter, Exit, Idle, Resched, Fork, Die, Walk, Stop, Enable, Disable, Reverse}
use Rattle.lp_text.specs.declared.form.TraceForm.{TraceForm}
use Rattle.lp_text.specs.declared.form.TraceForm.TheVariants.{Single}
use Rattle.lp_text.specs.declared.keyword.EventKeyword.{EventKeyword}
use Rattle.lp_text.specs.declared.keyword.EventKeyword.TheVariants as event
use Rattle.lp_text.specs.declared.keyword.LineKeyword.{LineKeyword}
use Rattle.lp_text.specs.declared.keyword.LineKeyword.TheVariants as line
use Rattle.lp_text.specs.declared.fault.Cause.{Cause}
use Rattle.lp_text.specs.declared.fault.Cause.TheVariants as cause
use Rattle.lp_text.specs.declared.fault.TraceFault.{TraceFault}
use Rattle.lp_text.specs.Words.{lines, words, form_of, has_word, line_word_of, class_of, fork_kind_of, number_of}
use Rattle.lp_text.specs.Traces.{TraceValue}

-- one step, then the next with what it gave; a fault is the first one
infixl 10 ◌>>=◌
abbrev pub ◌>>=◌ : {A B E : Type 0} → Result A E → (A → Result B E) → Result B E
(Ok x) >>= f = f x
(Err e) >>= f = Err e

-- what is there, or else a cause
abbrev pub needs : {A : Type 0} → Cause → Option A → Result A Cause
needs why None = Err why
needs why (Some x) = Ok x

-- ---- The words after the first: their number and their spelling (Shape)

-- the next word, and those after it
unfoldable pub next_word : List (List ℕ) → Result (List ℕ × List (List ℕ)) Cause
next_word [] = Err cause.Shape
next_word (word ∷ rest) = if length word == 0 then Err cause.Shape else Ok (word, rest)

-- the next word, which is to be the last
unfoldable pub last_word : List (List ℕ) → Result (List ℕ) Cause
last_word [] = Err cause.Shape
last_word (word ∷ []) = if length word == 0 then Err cause.Shape else Ok word
last_word (word ∷ more ∷ rest) = Err cause.Shape

-- no further word
unfoldable pub no_word : Event → List (List ℕ) → Result Event Cause
no_word event [] = Ok event
no_word event (word ∷ rest) = Err cause.Shape

unfoldable pub next_number : List (List ℕ) → Result (ℕ × List (List ℕ)) Cause
next_number given = do
  word ← next_word given
  number ← needs cause.Shape (number_of word.0)
  Ok (number, word.1)

unfoldable pub last_number : List (List ℕ) → Result ℕ Cause
last_number given = do
  word ← last_word given
  needs cause.Shape (number_of word)

-- ---- What the words mean

-- the symbol of a name
unfoldable pub symbol_of : List (List ℕ) → List ℕ → Result SymId Cause
symbol_of symbols name = do
  place ← needs cause.Unknown (position (bytes_eq name) symbols)
  Ok (record { 0 = place })

-- the task of a number
unfoldable pub task_of : ℕ → Result TaskId Cause
task_of number = if nat_le 1 number && nat_lt number 65536 then Ok (record { 0 = number }) else Err cause.Task

-- `call T NAME`; the name comes before the number
unfoldable pub call_line : List (List ℕ) → List (List ℕ) → Result Event Cause
call_line symbols given = do
  number ← next_number given
  name ← last_word number.1
  func ← symbol_of symbols name
  task ← task_of number.0
  Ok (Call task func)

-- `fork P C own` or `fork P C share`
unfoldable pub fork_line : List (List ℕ) → Result Event Cause
fork_line given = do
  first ← next_number given
  second ← next_number first.1
  word ← last_word second.1
  how ← needs cause.Shape (fork_kind_of word)
  parent ← task_of first.0
  child ← task_of second.0
  Ok (Fork parent child how)

-- the task of an event of one task, as `ret T`
unfoldable pub task_line : List (List ℕ) → Result TaskId Cause
task_line given = do
  number ← last_number given
  task_of number

unfoldable pub event_line : List (List ℕ) → EventKeyword → List (List ℕ) → Result Event Cause
event_line symbols event.Call given = call_line symbols given
event_line symbols event.Ret given = task_line given >>= λ task. Ok (Ret task)
event_line symbols event.Sleep given = task_line given >>= λ task. Ok (Sleep task)
event_line symbols event.Wake given = task_line given >>= λ task. Ok (Wake task)
event_line symbols event.Enter given = task_line given >>= λ task. Ok (Enter task)
event_line symbols event.Exit given = task_line given >>= λ task. Ok (Exit task)
event_line symbols event.Idle given = task_line given >>= λ task. Ok (Idle task)
event_line symbols event.Resched given = task_line given >>= λ task. Ok (Resched task)
event_line symbols event.Fork given = fork_line given
event_line symbols event.Die given = task_line given >>= λ task. Ok (Die task)
event_line symbols event.Walk given = no_word Walk given
event_line symbols event.Stop given = no_word Stop given
event_line symbols event.Enable given = no_word Enable given
event_line symbols event.Disable given = no_word Disable given
event_line symbols event.Reverse given = no_word Reverse given

-- `patch NAME`, or `patch K NAME` in the texts after the first
unfoldable pub patch_line : TraceForm → List (List ℕ) → Result (ℕ × List ℕ) Cause
patch_line Single given = do
  name ← last_word given
  Ok (1, name)
patch_line _ given = do
  number ← next_number given
  name ← last_word number.1
  Ok (number.0, name)

-- `boot N normal` or `boot N idle`
unfoldable pub boot_line : List (List ℕ) → Result (ℕ × Class) Cause
boot_line given = do
  number ← next_number given
  word ← last_word number.1
  class ← needs cause.Shape (class_of word)
  Ok (number.0, class)

-- ---- What a line adds to what the earlier lines gave

unfoldable pub add_symbol : TraceValue → List ℕ → Result TraceValue Cause
add_symbol so_far name =
    if not (is_name name) then Err cause.Name
    else if list_any (bytes_eq name) so_far.symbols then Err cause.Doubled
    else if length so_far.symbols == 4096 then Err cause.Many
    else Ok (record so_far { symbols = so_far.symbols ++ name ∷ [] })

-- what the patch of a number has so far, where a line may add to it: it is the last one, or one more
unfoldable pub begun : List (List SymId) → ℕ → Result (List SymId) Cause
begun patches number =
    if number == 0 then Err cause.Patch
    else if number == length patches then Ok (slice_index_or patches (number - 1) [])
    else if number == length patches + 1 && nat_le number 16 then Ok []
    else Err cause.Patch

-- what the patch of a number has with one function more
unfoldable pub grown : List (List SymId) → ℕ → SymId → Result (List SymId) Cause
grown patches number func = do
  had ← begun patches number
  if list_any (λ id. id.0 == func.0) had then Err cause.Patch
      else if length had == 256 then Err cause.Many
      else Ok (had ++ func ∷ [])

-- `patch` by the patch's number and the function's name
unfoldable pub add_function : TraceValue → ℕ × List ℕ → Result TraceValue Cause
add_function so_far line = do
  func ← symbol_of so_far.symbols line.1
  patch ← grown so_far.patches line.0 func
  Ok (record so_far { patches = take (line.0 - 1) so_far.patches ++ patch ∷ [] })

unfoldable pub add_boot : TraceValue → ℕ × Class → Result TraceValue Cause
add_boot so_far line = do
  task ← task_of line.0
  if list_any (λ boot. boot.0.0 == task.0) so_far.boots then Err cause.Task
      else Ok (record so_far { boots = so_far.boots ++ (task, line.1) ∷ [] })

unfoldable pub add_event : TraceValue → Event → Result TraceValue Cause
add_event so_far event =
    if length so_far.events == 1000000 then Err cause.Many
    else Ok (record so_far { events = so_far.events ++ event ∷ [] })

-- ---- Lines

-- the parts of a text in their order: symbols, patches, boot tasks, events
abbrev pub part_of : LineKeyword → ℕ
part_of line.Sym = 1
part_of line.Patch = 2
part_of line.Boot = 3
part_of (line.Event word) = 4

-- the last part that has a line
abbrev pub part_reached : TraceValue → ℕ
part_reached so_far =
    if nat_lt 0 (length so_far.events) then 4
    else if nat_lt 0 (length so_far.boots) then 3
    else if nat_lt 0 (length so_far.patches) then 2
    else 1

-- a first word, which is one of the text's and begins no earlier part (Word); tasks and events follow a patch (Patch)
unfoldable pub first_word : TraceValue → List ℕ → Result LineKeyword Cause
first_word so_far word = do
  first ← needs cause.Word (line_word_of word)
  if not (has_word so_far.form first) || nat_lt (part_of first) (part_reached so_far) then Err cause.Word
      else if nat_lt 2 (part_of first) && length so_far.patches == 0 then Err cause.Patch
      else Ok first

unfoldable pub line_by_word : TraceValue → LineKeyword → List (List ℕ) → Result TraceValue Cause
line_by_word so_far line.Sym given = do
  name ← last_word given
  add_symbol so_far name
line_by_word so_far line.Patch given = do
  line ← patch_line so_far.form given
  add_function so_far line
line_by_word so_far line.Boot given = do
  line ← boot_line given
  add_boot so_far line
line_by_word so_far (line.Event word) given = do
  event ← event_line so_far.symbols word given
  add_event so_far event

-- what is given with one line more, by its words, of which there is at least one
unfoldable pub with_line : TraceValue → List (List ℕ) → Result TraceValue Cause
with_line so_far [] = Err cause.Word
with_line so_far (word ∷ given) = do
  first ← first_word so_far word
  line_by_word so_far first given

-- ---- The text

-- a cause at a line
abbrev pub fault_at : {A : Type 0} → ℕ → Result A Cause → Result A TraceFault
fault_at number (Ok x) = Ok x
fault_at number (Err why) = Err (record { line = number; cause = why })

-- the end of the text, on the line after the last, where a last line without its end may stand
unfoldable pub at_end : TraceValue → List ℕ → Result TraceValue Cause
at_end so_far rest =
    if not (length rest == 0) then Err cause.Unended
    else if length so_far.patches == 0 then Err cause.Patch
    else Ok so_far

-- the lines from the one of this number on, and what stands after the last line end
unfoldable pub reading_from : ℕ → TraceValue → List (List ℕ) → Result TraceValue TraceFault
reading_from number so_far [] = Ok so_far
reading_from number so_far (rest ∷ []) = fault_at number (at_end so_far rest)
reading_from number so_far (line ∷ next ∷ more) = do
  given ← fault_at number (with_line so_far (words line))
  reading_from (number + 1) given (next ∷ more)

-- a text before its second line
abbrev pub empty : TraceForm → TraceValue
empty form = record { form = form; symbols = []; patches = []; boots = []; events = [] }

-- the first line, then the others
unfoldable pub reading_lines : List (List ℕ) → Result TraceValue TraceFault
reading_lines [] = fault_at 1 (Err cause.Header)
reading_lines (rest ∷ []) = fault_at 1 (if length rest == 0 then Err cause.Header else Err cause.Unended)
reading_lines (line ∷ next ∷ more) = do
  form ← fault_at 1 (needs cause.Header (form_of line))
  reading_from 2 (empty form) (next ∷ more)

-- the trace that a text spells, or the text's first fault. Line 0 stands for the text as a whole
unfoldable pub reading : List ℕ → Result TraceValue TraceFault
reading text =
    if nat_lt 134217728 (length text) then fault_at 0 (Err cause.Long)
    else reading_lines (lines text)
