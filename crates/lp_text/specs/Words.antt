-- The words of a trace text, and how a text is cut into lines and a line into words.
use Rattle.std.specs.Prelude.{ℕ, Bool, true, false, ◌&&◌, ◌||◌, not, List, [], ◌∷◌, ◌++◌, length, nat_le, if◌then◌else◌, ◌==◌, Option, None, Some, codes, slice_index}
use Rattle.std.specs.Char.{is_ascii_digit}
use Rattle.std.specs.List.{slice_split, join_with_byte, list_all}
use Rattle.std.specs.Str.{bytes_eq}
use Rattle.std.specs.Str.Parse.{digits_value}
use Rattle.lp_stack.specs.declared.view.Class.{Class}
use Rattle.lp_stack.specs.declared.view.Class.TheVariants as class
use Rattle.lp_model.specs.declared.check.ForkKind.{ForkKind}
use Rattle.lp_model.specs.declared.check.ForkKind.TheVariants as fork
use Rattle.lp_text.specs.declared.form.TraceForm.{TraceForm}
use Rattle.lp_text.specs.declared.form.TraceForm.TheVariants as form
use Rattle.lp_text.specs.declared.keyword.EventKeyword.{EventKeyword}
use Rattle.lp_text.specs.declared.keyword.EventKeyword.TheVariants as event
use Rattle.lp_text.specs.declared.keyword.LineKeyword.{LineKeyword}
use Rattle.lp_text.specs.declared.keyword.LineKeyword.TheVariants as line

-- ---- Cutting and joining

-- the parts between the places of a byte, as many as it has places and one more
unfoldable pub parts : ℕ → List ℕ → List (List ℕ)
parts at bytes = slice_split (λ b. b == at) bytes

-- what stands before each byte 10, and what stands after the last one
abbrev pub lines : List ℕ → List (List ℕ)
lines text = parts 10 text

-- words are separated by one space each
abbrev pub words : List ℕ → List (List ℕ)
words line = parts 32 line

-- a line of these words, with its end
abbrev pub line_of : List (List ℕ) → List ℕ
line_of words = join_with_byte 32 words ++ 10 ∷ []

-- ---- The words

-- the first line
abbrev pub header : TraceForm → List ℕ
header form.Single = codes "lptrace 1"
header form.Stacked = codes "lptrace 2"
header form.WithResched = codes "lptrace 3"

-- the first word of an event's line
abbrev pub event_word : EventKeyword → List ℕ
event_word event.Call = codes "call"
event_word event.Ret = codes "ret"
event_word event.Sleep = codes "sleep"
event_word event.Wake = codes "wake"
event_word event.Enter = codes "enter"
event_word event.Exit = codes "exit"
event_word event.Idle = codes "idle"
event_word event.Resched = codes "resched"
event_word event.Fork = codes "fork"
event_word event.Die = codes "die"
event_word event.Walk = codes "walk"
event_word event.Stop = codes "stop"
event_word event.Enable = codes "enable"
event_word event.Disable = codes "disable"
event_word event.Reverse = codes "reverse"

-- the first word of a line
abbrev pub line_word : LineKeyword → List ℕ
line_word line.Sym = codes "sym"
line_word line.Patch = codes "patch"
line_word line.Boot = codes "boot"
line_word (line.Event word) = event_word word

-- `resched` is a word of the third text alone
abbrev pub has_resched : TraceForm → Bool
has_resched form.WithResched = true
has_resched _ = false

-- the word is one of the text's
abbrev pub has_word : TraceForm → LineKeyword → Bool
has_word text (line.Event event.Resched) = has_resched text
has_word text _ = true

-- a boot task's class
abbrev pub class_word : Class → List ℕ
class_word class.Normal = codes "normal"
class_word class.Idle = codes "idle"

-- what a fork asks of the child's group
abbrev pub fork_word : ForkKind → List ℕ
fork_word fork.Own = codes "own"
fork_word fork.Share = codes "share"

-- ---- Which word it is

abbrev pub form_of : List ℕ → Option TraceForm
form_of line =
    if bytes_eq line (header form.Single) then Some form.Single
    else if bytes_eq line (header form.Stacked) then Some form.Stacked
    else if bytes_eq line (header form.WithResched) then Some form.WithResched
    else None

unfoldable pub event_word_of : List ℕ → Option EventKeyword
event_word_of word =
    if bytes_eq word (event_word event.Call) then Some event.Call
    else if bytes_eq word (event_word event.Ret) then Some event.Ret
    else if bytes_eq word (event_word event.Sleep) then Some event.Sleep
    else if bytes_eq word (event_word event.Wake) then Some event.Wake
    else if bytes_eq word (event_word event.Enter) then Some event.Enter
    else if bytes_eq word (event_word event.Exit) then Some event.Exit
    else if bytes_eq word (event_word event.Idle) then Some event.Idle
    else if bytes_eq word (event_word event.Resched) then Some event.Resched
    else if bytes_eq word (event_word event.Fork) then Some event.Fork
    else if bytes_eq word (event_word event.Die) then Some event.Die
    else if bytes_eq word (event_word event.Walk) then Some event.Walk
    else if bytes_eq word (event_word event.Stop) then Some event.Stop
    else if bytes_eq word (event_word event.Enable) then Some event.Enable
    else if bytes_eq word (event_word event.Disable) then Some event.Disable
    else if bytes_eq word (event_word event.Reverse) then Some event.Reverse
    else None

-- an event's word, where it is one
abbrev pub as_event : Option EventKeyword → Option LineKeyword
as_event None = None
as_event (Some word) = Some (line.Event word)

unfoldable pub line_word_of : List ℕ → Option LineKeyword
line_word_of word =
    if bytes_eq word (line_word line.Sym) then Some line.Sym
    else if bytes_eq word (line_word line.Patch) then Some line.Patch
    else if bytes_eq word (line_word line.Boot) then Some line.Boot
    else as_event (event_word_of word)

abbrev pub class_of : List ℕ → Option Class
class_of word =
    if bytes_eq word (class_word class.Normal) then Some class.Normal
    else if bytes_eq word (class_word class.Idle) then Some class.Idle
    else None

abbrev pub fork_kind_of : List ℕ → Option ForkKind
fork_kind_of word =
    if bytes_eq word (fork_word fork.Own) then Some fork.Own
    else if bytes_eq word (fork_word fork.Share) then Some fork.Share
    else None

-- ---- Numbers

-- 1 to so many digits, the first of them no 0 but in `0` itself
abbrev pub is_numeral : ℕ → List ℕ → Bool
is_numeral most word = nat_le 1 (length word) && nat_le (length word) most && list_all is_ascii_digit word && (length word == 1 || not (slice_index word 0 == 48))

-- the number that a word of 1 to 5 digits spells
unfoldable pub number_of : List ℕ → Option ℕ
number_of word = if is_numeral 5 word then Some (digits_value 10 word) else None
