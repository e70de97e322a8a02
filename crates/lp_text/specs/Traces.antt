-- A trace, and its one spelling as a text.
use Rattle.std.specs.Prelude.{◌≡◌, ℕ, ◌+◌, ◌<◌, ◌≤◌, ◌==◌, Bool, true, Vec, List, [], ◌∷◌, ◌++◌, length, map, None, decimal, slice_index_or}
use Rattle.std.specs.List.{flat_map, AllByRecursion, IsDistinct}
use Rattle.std.specs.Str.{bytes_eq}
use Rattle.lp_symbols.specs.declared.sym_id.SymId.{SymId}
use Rattle.lp_symbols.specs.Names.{is_name}
use Rattle.lp_stack.specs.declared.number.TaskId.{TaskId}
use Rattle.lp_stack.specs.declared.view.Class.{Class}
use Rattle.lp_patch.specs.Patches.{patch_refusal}
use Rattle.lp_definitions.specs.declared.event.Event.{Event}
use Rattle.lp_definitions.specs.declared.event.Event.TheVariants.{Call, Ret, Sleep, Wake, Enter, Exit, Idle, Resched, Fork, Die, Walk, Stop, Enable, Disable, Reverse}
use Rattle.lp_text.specs.declared.form.TraceForm.{TraceForm}
use Rattle.lp_text.specs.declared.form.TraceForm.TheVariants.{Single}
use Rattle.lp_text.specs.declared.keyword.EventKeyword.TheVariants as word
use Rattle.lp_text.specs.declared.keyword.LineKeyword.TheVariants as line
use Rattle.lp_text.specs.Words.{header, line_word, event_word, has_resched, class_word, fork_word, line_of}

-- a trace: names of functions, patches of them with the lowest in front, the tasks that are there at
-- boot, and what happened, each list in the order in which it is written
pub record TraceValue : Type 0 where
  -- which text it is: `lptrace 1` has one patch, `lptrace 2` patches on one another, `lptrace 3` also `resched`
  pub form : TraceForm
  pub symbols : List (List ℕ)
  pub patches : List (List SymId)
  pub boots : List (TaskId × Class)
  pub events : List Event

-- the functions of patches, as lists
abbrev pub functions : {A : Type 0} → List (Vec SymId A) → List (List SymId)
functions patches = map (λ patch. patch.items) patches

-- ---- The words of each line

-- the name of a symbol
abbrev pub name : List (List ℕ) → SymId → List ℕ
name symbols id = slice_index_or symbols id.0 []

abbrev pub sym_words : List ℕ → List (List ℕ)
sym_words symbol = line_word line.Sym ∷ symbol ∷ []

-- a function of the patch of a number, which the first text leaves out
abbrev pub patch_words : TraceForm → ℕ → List ℕ → List (List ℕ)
patch_words Single number func = line_word line.Patch ∷ func ∷ []
patch_words _ number func = line_word line.Patch ∷ decimal number ∷ func ∷ []

abbrev pub boot_words : TaskId × Class → List (List ℕ)
boot_words boot = line_word line.Boot ∷ decimal boot.0.0 ∷ class_word boot.1 ∷ []

abbrev pub event_words : List (List ℕ) → Event → List (List ℕ)
event_words symbols (Call task func) = event_word word.Call ∷ decimal task.0 ∷ name symbols func ∷ []
event_words symbols (Ret task) = event_word word.Ret ∷ decimal task.0 ∷ []
event_words symbols (Sleep task) = event_word word.Sleep ∷ decimal task.0 ∷ []
event_words symbols (Wake task) = event_word word.Wake ∷ decimal task.0 ∷ []
event_words symbols (Enter task) = event_word word.Enter ∷ decimal task.0 ∷ []
event_words symbols (Exit task) = event_word word.Exit ∷ decimal task.0 ∷ []
event_words symbols (Idle task) = event_word word.Idle ∷ decimal task.0 ∷ []
event_words symbols (Resched task) = event_word word.Resched ∷ decimal task.0 ∷ []
event_words symbols (Fork parent child how) = event_word word.Fork ∷ decimal parent.0 ∷ decimal child.0 ∷ fork_word how ∷ []
event_words symbols (Die task) = event_word word.Die ∷ decimal task.0 ∷ []
event_words symbols Walk = event_word word.Walk ∷ []
event_words symbols Stop = event_word word.Stop ∷ []
event_words symbols Enable = event_word word.Enable ∷ []
event_words symbols Disable = event_word word.Disable ∷ []
event_words symbols Reverse = event_word word.Reverse ∷ []

-- ---- The text

-- the functions of these patches, the first of which has this number
unfoldable pub patch_lines : TraceForm → List (List ℕ) → ℕ → List (List SymId) → List (List (List ℕ))
patch_lines form symbols number [] = []
patch_lines form symbols number (patch ∷ patches) = map (λ func. patch_words form number (name symbols func)) patch ++ patch_lines form symbols (number + 1) patches

-- the lines after the first, each as its words
unfoldable pub lines_after_header : TraceValue → List (List (List ℕ))
lines_after_header trace =
    map sym_words trace.symbols
    ++ patch_lines trace.form trace.symbols 1 trace.patches
    ++ map boot_words trace.boots
    ++ map (event_words trace.symbols) trace.events

-- the one spelling of a trace
unfoldable pub text_of : TraceValue → List ℕ
text_of trace = header trace.form ++ 10 ∷ [] ++ flat_map line_of (lines_after_header trace)

-- ---- Limits

-- names of 1 to 512 bytes from 33 to 126
abbrev pub AreNames : List (List ℕ) → Type 0
AreNames symbols = AllByRecursion (λ symbol. is_name symbol ≡ true) symbols

abbrev pub IsTask : TaskId → Type 0
IsTask task = (1 ≤ task.0) × (task.0 < 65536)

-- an event's tasks have numbers, and a called function is one of so many symbols
abbrev pub IsEvent : ℕ → Event → Type 0
IsEvent symbols (Call task func) = IsTask task × (func.0 < symbols)
IsEvent symbols (Ret task) = IsTask task
IsEvent symbols (Sleep task) = IsTask task
IsEvent symbols (Wake task) = IsTask task
IsEvent symbols (Enter task) = IsTask task
IsEvent symbols (Exit task) = IsTask task
IsEvent symbols (Idle task) = IsTask task
IsEvent symbols (Resched task) = IsTask task
IsEvent symbols (Fork parent child how) = IsTask parent × IsTask child
IsEvent symbols (Die task) = IsTask task
IsEvent symbols Walk = Unit {0}
IsEvent symbols Stop = Unit {0}
IsEvent symbols Enable = Unit {0}
IsEvent symbols Disable = Unit {0}
IsEvent symbols Reverse = Unit {0}

-- the event has a word in the text
abbrev pub has_event : TraceForm → Event → Bool
has_event form (Resched task) = has_resched form
has_event form _ = true

-- how many patches a text has at most
abbrev pub most_patches : TraceForm → ℕ
most_patches Single = 1
most_patches _ = 16

-- what has a spelling
pub record IsTrace (trace : TraceValue) : Type 0 where
  pub names : AreNames trace.symbols
  pub names_differ : IsDistinct bytes_eq trace.symbols
  pub symbols_few : length trace.symbols ≤ 4096
  -- each patch has 1 to 256 of these functions, none of them twice
  pub patches : AllByRecursion (λ patch. patch_refusal (length trace.symbols) patch ≡ None) trace.patches
  pub patches_some : 1 ≤ length trace.patches
  pub patches_few : length trace.patches ≤ most_patches trace.form
  -- boot tasks have numbers, and each its own
  pub boots : AllByRecursion (λ boot. IsTask boot.0) trace.boots
  pub boots_differ : IsDistinct (λ boot other. boot.0.0 == other.0.0) trace.boots
  pub events : AllByRecursion (IsEvent (length trace.symbols)) trace.events
  pub events_told : AllByRecursion (λ event. has_event trace.form event ≡ true) trace.events
  pub events_few : length trace.events ≤ 1000000
  pub size : length (text_of trace) ≤ 134217728
