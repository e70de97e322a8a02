-- The words of a line are read again.
use Rattle.std.proofs.Common.{◌≡◌, ◌<◌, ◌≤◌, ℕ, zero, suc, Bool, true, false, not, List, [], ◌∷◌, length, get_or, Option, None, Some, Ok, cond, refl, sym, ap, ◌∙◌, arith, inl, inr}
use Rattle.std.specs.Prelude.{nat_le, nat_lt, ◌==◌, ◌&&◌, ◌||◌, slice_index, slice_index_or, decimal}
use Rattle.std.specs.Char.{is_ascii_digit, is_ascii_graphic}
use Rattle.std.specs.List.{list_all, IsDistinct, prefix_len}
use Rattle.std.specs.Fmt.{digits}
use Rattle.std.specs.Str.{bytes_eq}
use Rattle.std.specs.Str.Parse.{digits_value}
use Rattle.std.proofs.lemmas.Bool.{and_parts}
use Rattle.std.proofs.lemmas.Bool.Decides.{Decides-ltb, leb_tells}
use Rattle.std.proofs.lemmas.Fmt.{decimal_nonempty, length-decimal-le, first_decimal, digits_decimal, digits_value-decimal}
use Rattle.std.proofs.lemmas.Slice.Eq.{bytes_eq-Decides}
use Rattle.lp_symbols.specs.Names.{is_name}
use Rattle.lp_symbols.specs.declared.sym_id.SymId.{SymId}
use Rattle.lp_stack.specs.declared.number.TaskId.{TaskId}
use Rattle.lp_stack.specs.declared.view.Class.{Class}
use Rattle.lp_stack.specs.declared.view.Class.TheVariants as class
use Rattle.lp_model.specs.declared.check.ForkKind.{ForkKind}
use Rattle.lp_model.specs.declared.check.ForkKind.TheVariants as fork
use Rattle.lp_definitions.specs.declared.event.Event.{Event}
use Rattle.lp_definitions.specs.declared.event.Event.TheVariants.{Call, Ret, Sleep, Wake, Enter, Exit, Idle, Resched, Fork, Die, Walk, Stop, Enable, Disable, Reverse}
use Rattle.lp_text.specs.declared.form.TraceForm.{TraceForm}
use Rattle.lp_text.specs.declared.form.TraceForm.TheVariants.{Single, Stacked, WithResched}
use Rattle.lp_text.specs.declared.keyword.EventKeyword.{EventKeyword}
use Rattle.lp_text.specs.declared.keyword.EventKeyword.TheVariants as event
use Rattle.lp_text.specs.declared.keyword.LineKeyword.{LineKeyword}
use Rattle.lp_text.specs.declared.keyword.LineKeyword.TheVariants as line
use Rattle.lp_text.specs.Words.{header, event_word, line_word, has_word, class_word, fork_word, form_of, event_word_of, line_word_of, class_of, fork_kind_of, is_numeral, number_of}
use Rattle.lp_text.specs.Traces.{AreNames, name, event_words, patch_words, IsTask, IsEvent, has_event, most_patches}
use Rattle.lp_text.specs.Reading.{next_word, last_word, no_word, next_number, last_number, symbol_of, task_of, call_line, fork_line, task_line, event_line, patch_line, boot_line}
use Rattle.lp_text.proofs.Numbers.{own}
use Rattle.lp_text.proofs.Pushes.{not_same, all_at}

-- ---- Tables of words

pub form_again : (form : TraceForm) → form_of (header form) ≡ Some form
form_again Single = refl
form_again Stacked = refl
form_again WithResched = refl

pub event_word_again : (word : EventKeyword) → event_word_of (event_word word) ≡ Some word
unfolding event_word_of
event_word_again event.Call = refl
event_word_again event.Ret = refl
event_word_again event.Sleep = refl
event_word_again event.Wake = refl
event_word_again event.Enter = refl
event_word_again event.Exit = refl
event_word_again event.Idle = refl
event_word_again event.Resched = refl
event_word_again event.Fork = refl
event_word_again event.Die = refl
event_word_again event.Walk = refl
event_word_again event.Stop = refl
event_word_again event.Enable = refl
event_word_again event.Disable = refl
event_word_again event.Reverse = refl

pub line_word_again : (word : LineKeyword) → line_word_of (line_word word) ≡ Some word
unfolding line_word_of event_word_of
line_word_again line.Sym = refl
line_word_again line.Patch = refl
line_word_again line.Boot = refl
line_word_again (line.Event event.Call) = refl
line_word_again (line.Event event.Ret) = refl
line_word_again (line.Event event.Sleep) = refl
line_word_again (line.Event event.Wake) = refl
line_word_again (line.Event event.Enter) = refl
line_word_again (line.Event event.Exit) = refl
line_word_again (line.Event event.Idle) = refl
line_word_again (line.Event event.Resched) = refl
line_word_again (line.Event event.Fork) = refl
line_word_again (line.Event event.Die) = refl
line_word_again (line.Event event.Walk) = refl
line_word_again (line.Event event.Stop) = refl
line_word_again (line.Event event.Enable) = refl
line_word_again (line.Event event.Disable) = refl
line_word_again (line.Event event.Reverse) = refl

pub class_again : (c : Class) → class_of (class_word c) ≡ Some c
class_again class.Normal = refl
class_again class.Idle = refl

pub fork_again : (k : ForkKind) → fork_kind_of (fork_word k) ≡ Some k
fork_again fork.Own = refl
fork_again fork.Share = refl

-- ---- Numbers

pub at_most : (m n : ℕ) → m ≤ n → nat_le m n ≡ true
at_most m n h = elim (leb_tells m n) as (λ _. nat_le m n ≡ true) [ inl told ↦ told.0 | inr told ↦ absurd (omega (arith, told.1)) ]

pub both : (a b : Bool) → a ≡ true → b ≡ true → (a && b) ≡ true
both true b h k = k
both false b h k = absurd (cc h)

either : (a b : Bool) → b ≡ true → (a || b) ≡ true
either true b h = refl
either false b h = h

first : (n : ℕ) → n < 10000000 → (length (decimal n) == 1 || not (slice_index (decimal n) 0 == 48)) ≡ true
unfolding digits
first zero small = refl
first (suc n) small =
    let high : 48 < get_or (decimal (suc n)) 0 0 = first_decimal (suc n) (omega arith) (omega arith) in
    either (length (decimal (suc n)) == 1) (not (slice_index (decimal (suc n)) 0 == 48)) (ap not (not_same (slice_index (decimal (suc n)) 0) 48 (slice_index (decimal (suc n)) 0 == 48) refl (λ e. omega arith)))

-- the numeral of a number of so many digits
pub numeral_again : (most n : ℕ) → length (decimal n) ≤ most → n < 10000000 → cond (is_numeral most (decimal n)) (Some (digits_value 10 (decimal n))) None ≡ Some n
numeral_again most n few small =
    let some : 0 < length (decimal n) = decimal_nonempty n (omega arith) in
    let a = at_most 1 (length (decimal n)) (omega arith) in
    let b = at_most (length (decimal n)) most few in
    let d : list_all is_ascii_digit (decimal n) ≡ true = digits_decimal own n (omega arith) in
    rw (a, b, d, first n small) (ap (λ v. Some v) (digits_value-decimal own n (omega arith)))

pub number_again : (n : ℕ) → n < 100000 → number_of (decimal n) ≡ Some n
unfolding number_of
number_again n small = numeral_again 5 n (length-decimal-le 5 n (omega arith) small (omega arith)) (omega arith)

-- ---- Words after the first

some_word : (word : List ℕ) → 0 < length word → (length word == 0) ≡ false
some_word word h = not_same (length word) 0 (length word == 0) refl (λ e. omega arith)

pub next_word_again : (word : List ℕ) (rest : List (List ℕ)) → 0 < length word → next_word (word ∷ rest) ≡ Ok (word, rest)
unfolding next_word
next_word_again word rest h = rw (some_word word h) refl

pub last_word_again : (word : List ℕ) → 0 < length word → last_word (word ∷ []) ≡ Ok word
unfolding last_word
last_word_again word h = rw (some_word word h) refl

pub next_number_again : (n : ℕ) (rest : List (List ℕ)) → n < 100000 → next_number (decimal n ∷ rest) ≡ Ok (n, rest)
unfolding next_number
next_number_again n rest small = rw (next_word_again (decimal n) rest (decimal_nonempty n (omega arith)), number_again n small) refl

pub last_number_again : (n : ℕ) → n < 100000 → last_number (decimal n ∷ []) ≡ Ok n
unfolding last_number
last_number_again n small = rw (last_word_again (decimal n) (decimal_nonempty n (omega arith)), number_again n small) refl

-- ---- What the words mean

unequal : (x y : List ℕ) (b : Bool) → bytes_eq x y ≡ b → bytes_eq y x ≡ false → b ≡ false
unequal x y false e h = refl
unequal x y true e h = absurd (cc (sym h ∙ (bytes_eq-Decides y x).1 (sym ((bytes_eq-Decides x y).0 e))))

prefix_at : (symbols : List (List ℕ)) (i : ℕ) → IsDistinct bytes_eq symbols → i < length symbols → prefix_len (λ x. not (bytes_eq (slice_index_or symbols i []) x)) symbols ≡ i
unfolding IsDistinct
prefix_at [] i h below = absurd (omega arith)
prefix_at (symbol ∷ symbols) zero h below = rw ((bytes_eq-Decides symbol symbol).1 refl) refl
prefix_at (symbol ∷ symbols) (suc i) h below =
    let there = slice_index_or symbols i [] in
    let apart : bytes_eq symbol there ≡ false = all_at (λ y. bytes_eq symbol y ≡ false) symbols i [] h.0 (omega arith) in
    let other : bytes_eq there symbol ≡ false = unequal there symbol (bytes_eq there symbol) refl apart in
    let rest : prefix_len (λ x. not (bytes_eq there x)) symbols ≡ i = prefix_at symbols i h.1 (omega arith) in
    rw other (omega arith)

pub symbol_again : (symbols : List (List ℕ)) (id : SymId) → IsDistinct bytes_eq symbols → id.0 < length symbols → symbol_of symbols (name symbols id) ≡ Ok id
unfolding symbol_of
symbol_again symbols id h below =
    let at : prefix_len (λ x. not (bytes_eq (slice_index_or symbols id.0 []) x)) symbols ≡ id.0 = prefix_at symbols id.0 h below in
    rw (at, (Decides-ltb id.0 (length symbols)).1 below) refl

pub task_again : (task : TaskId) → IsTask task → task_of task.0 ≡ Ok task
unfolding task_of
task_again task h =
    let low : 1 ≤ task.0 = h.0 in
    rw (both (nat_le 1 task.0) (nat_lt task.0 65536) (at_most 1 task.0 low) ((Decides-ltb task.0 65536).1 h.1)) refl

-- ---- Lines

some_bytes : (n : ℕ) (b : Bool) → (n == 0) ≡ b → not b ≡ true → 0 < n
some_bytes zero true e h = absurd (cc h)
some_bytes zero false e h = absurd (cc e)
some_bytes (suc n) b e h = omega arith

pub name_some : (symbol : List ℕ) → is_name symbol ≡ true → 0 < length symbol
name_some symbol h =
    let a = and_parts (not (length symbol == 0) && nat_le (length symbol) 512) (list_all is_ascii_graphic symbol) h in
    let b = and_parts (not (length symbol == 0)) (nat_le (length symbol) 512) a.0 in
    some_bytes (length symbol) (length symbol == 0) refl b.0

pub name_at_some : (symbols : List (List ℕ)) (id : SymId) → AreNames symbols → id.0 < length symbols → 0 < length (name symbols id)
name_at_some symbols id names known = name_some (name symbols id) (all_at (λ symbol. is_name symbol ≡ true) symbols id.0 [] names known)

small : (task : TaskId) → IsTask task → task.0 < 100000
small task h = let high : task.0 < 65536 = h.1 in omega arith

task_line_again : (task : TaskId) → IsTask task → task_line (decimal task.0 ∷ []) ≡ Ok task
unfolding task_line
task_line_again task h = rw (last_number_again task.0 (small task h)) (task_again task h)

fork_word_some : (k : ForkKind) → 0 < length (fork_word k)
fork_word_some fork.Own = omega arith
fork_word_some fork.Share = omega arith

pub class_word_some : (c : Class) → 0 < length (class_word c)
class_word_some class.Normal = omega arith
class_word_some class.Idle = omega arith

call_line_again : (symbols : List (List ℕ)) (task : TaskId) (func : SymId) → AreNames symbols → IsDistinct bytes_eq symbols → IsTask task → func.0 < length symbols → call_line symbols (decimal task.0 ∷ name symbols func ∷ []) ≡ Ok (Call task func)
unfolding call_line
call_line_again symbols task func names differ h known =
    rw (next_number_again task.0 (name symbols func ∷ []) (small task h), last_word_again (name symbols func) (name_at_some symbols func names known), symbol_again symbols func differ known, task_again task h) refl

fork_line_again : (parent child : TaskId) (k : ForkKind) → IsTask parent → IsTask child → fork_line (decimal parent.0 ∷ decimal child.0 ∷ fork_word k ∷ []) ≡ Ok (Fork parent child k)
unfolding fork_line
fork_line_again parent child k h i =
    rw (next_number_again parent.0 (decimal child.0 ∷ fork_word k ∷ []) (small parent h), next_number_again child.0 (fork_word k ∷ []) (small child i), last_word_again (fork_word k) (fork_word_some k), fork_again k, task_again parent h, task_again child i) refl

-- an event's first word, and the words after it
pub word_of : Event → EventKeyword
word_of (Call task func) = event.Call
word_of (Ret task) = event.Ret
word_of (Sleep task) = event.Sleep
word_of (Wake task) = event.Wake
word_of (Enter task) = event.Enter
word_of (Exit task) = event.Exit
word_of (Idle task) = event.Idle
word_of (Resched task) = event.Resched
word_of (Fork parent child how) = event.Fork
word_of (Die task) = event.Die
word_of Walk = event.Walk
word_of Stop = event.Stop
word_of Enable = event.Enable
word_of Disable = event.Disable
word_of Reverse = event.Reverse

-- the word of an event is one of a text's where the event has a word in it
pub word_known : (form : TraceForm) (e : Event) → has_event form e ≡ has_word form (line.Event (word_of e))
unfolding word_of
word_known form (Call task func) = refl
word_known form (Ret task) = refl
word_known form (Sleep task) = refl
word_known form (Wake task) = refl
word_known form (Enter task) = refl
word_known form (Exit task) = refl
word_known form (Idle task) = refl
word_known form (Resched task) = refl
word_known form (Fork parent child how) = refl
word_known form (Die task) = refl
word_known form Walk = refl
word_known form Stop = refl
word_known form Enable = refl
word_known form Disable = refl
word_known form Reverse = refl

-- an event's line begins with its word
first_of_event : (symbols : List (List ℕ)) (e : Event) → get_or (event_words symbols e) 0 [] ≡ event_word (word_of e)
unfolding word_of
first_of_event symbols (Call task func) = refl
first_of_event symbols (Ret task) = refl
first_of_event symbols (Sleep task) = refl
first_of_event symbols (Wake task) = refl
first_of_event symbols (Enter task) = refl
first_of_event symbols (Exit task) = refl
first_of_event symbols (Idle task) = refl
first_of_event symbols (Resched task) = refl
first_of_event symbols (Fork parent child how) = refl
first_of_event symbols (Die task) = refl
first_of_event symbols Walk = refl
first_of_event symbols Stop = refl
first_of_event symbols Enable = refl
first_of_event symbols Disable = refl
first_of_event symbols Reverse = refl

same_word : (a b : EventKeyword) → ◌≡◌ {A = Option EventKeyword} (Some a) (Some b) → a ≡ b
same_word a b e = cc

-- so a line that begins with another word spells no such event
pub word_is : (symbols : List (List ℕ)) (word : EventKeyword) (given : List (List ℕ)) (e : Event) → event_word word ∷ given ≡ event_words symbols e → word ≡ word_of e
word_is symbols word given e same =
    let first : event_word word ≡ event_word (word_of e) = ap (λ ws. get_or ws 0 []) same ∙ first_of_event symbols e in
    same_word word (word_of e) (sym (event_word_again word) ∙ (ap event_word_of first ∙ event_word_again (word_of e)))

-- a line of an event that is read again
pub record Again (symbols : List (List ℕ)) (e : Event) : Type 0 where
  pub given : List (List ℕ)
  pub words : event_words symbols e ≡ event_word (word_of e) ∷ given
  pub reads : event_line symbols (word_of e) given ≡ Ok e

pub event_again : (symbols : List (List ℕ)) (e : Event) → AreNames symbols → IsDistinct bytes_eq symbols → IsEvent (length symbols) e → Again symbols e
unfolding event_line word_of no_word
event_again symbols (Call task func) names differ h = record { given = decimal task.0 ∷ name symbols func ∷ []; words = refl; reads = call_line_again symbols task func names differ h.0 h.1 }
event_again symbols (Ret task) names differ h = record { given = decimal task.0 ∷ []; words = refl; reads = rw (task_line_again task h) refl }
event_again symbols (Sleep task) names differ h = record { given = decimal task.0 ∷ []; words = refl; reads = rw (task_line_again task h) refl }
event_again symbols (Wake task) names differ h = record { given = decimal task.0 ∷ []; words = refl; reads = rw (task_line_again task h) refl }
event_again symbols (Enter task) names differ h = record { given = decimal task.0 ∷ []; words = refl; reads = rw (task_line_again task h) refl }
event_again symbols (Exit task) names differ h = record { given = decimal task.0 ∷ []; words = refl; reads = rw (task_line_again task h) refl }
event_again symbols (Idle task) names differ h = record { given = decimal task.0 ∷ []; words = refl; reads = rw (task_line_again task h) refl }
event_again symbols (Resched task) names differ h = record { given = decimal task.0 ∷ []; words = refl; reads = rw (task_line_again task h) refl }
event_again symbols (Fork parent child how) names differ h = record { given = decimal parent.0 ∷ decimal child.0 ∷ fork_word how ∷ []; words = refl; reads = fork_line_again parent child how h.0 h.1 }
event_again symbols (Die task) names differ h = record { given = decimal task.0 ∷ []; words = refl; reads = rw (task_line_again task h) refl }
event_again symbols Walk names differ h = record { given = []; words = refl; reads = refl }
event_again symbols Stop names differ h = record { given = []; words = refl; reads = refl }
event_again symbols Enable names differ h = record { given = []; words = refl; reads = refl }
event_again symbols Disable names differ h = record { given = []; words = refl; reads = refl }
event_again symbols Reverse names differ h = record { given = []; words = refl; reads = refl }

pub boot_line_again : (task : TaskId) (c : Class) → IsTask task → boot_line (decimal task.0 ∷ class_word c ∷ []) ≡ Ok (task.0, c)
unfolding boot_line
boot_line_again task c h =
    rw (next_number_again task.0 (class_word c ∷ []) (small task h), last_word_again (class_word c) (class_word_some c), class_again c) refl

-- the words after the first of a patch line
unfoldable pub patch_given : TraceForm → ℕ → List ℕ → List (List ℕ)
patch_given Single number func = func ∷ []
patch_given _ number func = decimal number ∷ func ∷ []

pub patch_given_words : (form : TraceForm) (number : ℕ) (func : List ℕ) → patch_words form number func ≡ line_word line.Patch ∷ patch_given form number func
unfolding patch_given
patch_given_words Single number func = refl
patch_given_words Stacked number func = refl
patch_given_words WithResched number func = refl

pub patch_line_again : (form : TraceForm) (number : ℕ) (func : List ℕ) → 1 ≤ number → number ≤ most_patches form → 0 < length func → patch_line form (patch_given form number func) ≡ Ok (number, func)
unfolding patch_line patch_given
patch_line_again Single number func low high some =
    let one : 1 ≡ number = omega arith in
    rw (last_word_again func some, one) refl
patch_line_again Stacked number func low high some = rw (next_number_again number (func ∷ []) (omega arith), last_word_again func some) refl
patch_line_again WithResched number func low high some = rw (next_number_again number (func ∷ []) (omega arith), last_word_again func some) refl
