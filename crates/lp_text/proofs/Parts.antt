-- The line of a part, as a reader takes it.
use Rattle.std.proofs.Common.{◌≡◌, ◌<◌, ◌≤◌, ◌-◌, ℕ, Bool, true, false, List, [], ◌∷◌, ◌++◌, length, take, Result, Ok, Err, refl, sym, ap, ◌∙◌, arith, ◌⊎◌, inl, inr}
use Rattle.std.specs.Prelude.{nat_lt, nat_le, ◌==◌, ◌&&◌, decimal, slice_index_or, IsErr}
use Rattle.std.specs.List.{IsDistinct, list_any}
use Rattle.std.specs.Str.{bytes_eq}
use Rattle.std.proofs.lemmas.List.{get_or_past}
use Rattle.lp_symbols.specs.declared.sym_id.SymId.{SymId}
use Rattle.lp_stack.specs.declared.number.TaskId.{TaskId}
use Rattle.lp_stack.specs.declared.view.Class.{Class}
use Rattle.lp_model.specs.declared.check.ForkKind.{ForkKind}
use Rattle.lp_definitions.specs.declared.event.Event.{Event}
use Rattle.lp_definitions.specs.declared.event.Event.TheVariants.{Call, Ret, Sleep, Wake, Enter, Exit, Idle, Resched, Fork, Die, Walk, Stop, Enable, Disable, Reverse}
use Rattle.lp_text.specs.declared.form.TraceForm.{TraceForm}
use Rattle.lp_text.specs.declared.form.TraceForm.TheVariants.{Single, Stacked, WithResched}
use Rattle.lp_text.specs.declared.keyword.LineKeyword.TheVariants as line
use Rattle.lp_text.specs.declared.fault.Cause.{Cause}
use Rattle.lp_text.specs.declared.fault.Cause.TheVariants as cause
use Rattle.lp_text.specs.declared.keyword.EventKeyword.{EventKeyword}
use Rattle.lp_text.specs.declared.keyword.EventKeyword.TheVariants as event
use Rattle.lp_text.specs.inside.Builders.{IsOut}
use Rattle.lp_text.specs.Words.{class_word, event_word, has_word, fork_kind_of, fork_word}
use Rattle.lp_text.specs.Traces.{TraceValue, AreNames, IsEvent, has_event, name, sym_words, patch_words, boot_words, event_words}
use Rattle.lp_text.specs.Reading.{◌>>=◌, needs, next_number, last_number, last_word, symbol_of, task_of, task_line, call_line, fork_line, patch_line, boot_line, event_line, add_symbol, add_function, add_boot, add_event, grown, part_reached, first_word, line_by_word, with_line}
use Rattle.lp_text.proofs.Choices.{guard_ok, pass_ok, bind_ok, ok_is}
use Rattle.lp_text.proofs.Spelled.{next_number_spelled, task_spelled}
use Rattle.lp_text.proofs.Steps.{SoFar, grown_parts}
use Rattle.lp_text.proofs.Again.{last_word_again, next_number_again, last_number_again, class_word_some, class_again, patch_given, patch_given_words, symbol_again, event_again, line_word_again, word_of, word_known}
use Rattle.lp_text.proofs.Folds.{line_again, at_most_either}

-- ---- Parts that have not begun

pub before_patches : (t : TraceValue) → t.patches ≡ [] → t.boots ≡ [] → t.events ≡ [] → part_reached t ≤ 1
before_patches t ps bs es = rw (es, bs, ps) (omega arith)

pub before_boots : (t : TraceValue) → t.boots ≡ [] → t.events ≡ [] → part_reached t ≤ 2
before_boots t bs es = rw (es, bs) (at_most_either (nat_lt 0 (length t.patches)) 2 1 2 (omega arith) (omega arith))

pub before_events : (t : TraceValue) → t.events ≡ [] → part_reached t ≤ 3
before_events t es = rw es (at_most_either (nat_lt 0 (length t.boots)) 3 _ 3 (omega arith) (at_most_either (nat_lt 0 (length t.patches)) 2 1 3 (omega arith) (omega arith)))

before_end : (t : TraceValue) → part_reached t ≤ 4
before_end t =
    at_most_either (nat_lt 0 (length t.events)) 4 _ 4 (omega arith) (at_most_either (nat_lt 0 (length t.boots)) 3 _ 4 (omega arith) (at_most_either (nat_lt 0 (length t.patches)) 2 1 4 (omega arith) (omega arith)))

-- ---- A symbol

pub symbol_line : (t : TraceValue) (symbol : List ℕ) → part_reached t ≤ 1 → 0 < length symbol → with_line t (sym_words symbol) ≡ add_symbol t symbol
unfolding line_by_word
symbol_line t symbol early some = line_again t line.Sym (symbol ∷ []) refl early (λ h. absurd (omega arith)) ∙ rw (last_word_again symbol some) refl

pub symbol_added : (t u : TraceValue) (symbol : List ℕ) → add_symbol t symbol ≡ Ok u → u ≡ record t { symbols = t.symbols ++ symbol ∷ [] }
unfolding add_symbol
symbol_added t u symbol h =
    let a = guard_ok _ cause.Name _ u h in
    let b = guard_ok (list_any (bytes_eq symbol) t.symbols) cause.Doubled _ u a.1 in
    sym (ok_is (guard_ok (length t.symbols == 4096) cause.Many _ u b.1).1)

-- ---- A function of a patch

patch_line_of : (form : TraceForm) (number : ℕ) (func : List ℕ) → (form ≡ Single → number ≡ 1) → number < 100000 → 0 < length func → patch_line form (patch_given form number func) ≡ Ok (number, func)
unfolding patch_line patch_given
patch_line_of Single number func single small some = rw (last_word_again func some, single refl) refl
patch_line_of Stacked number func single small some = rw (next_number_again number (func ∷ []) small, last_word_again func some) refl
patch_line_of WithResched number func single small some = rw (next_number_again number (func ∷ []) small, last_word_again func some) refl

patch_line_none : (form : TraceForm) (number : ℕ) → number < 100000 → patch_line form (patch_given form number []) ≡ Err cause.Shape
unfolding patch_line patch_given last_word
patch_line_none Single number small = refl
patch_line_none Stacked number small = rw (next_number_again number ([] ∷ []) small) refl
patch_line_none WithResched number small = rw (next_number_again number ([] ∷ []) small) refl

module _ (t : TraceValue) (number : ℕ) (early : part_reached t ≤ 2) (small : number < 100000) where
  patch_words_line : (func : List ℕ) → with_line t (patch_words t.form number func) ≡ line_by_word t line.Patch (patch_given t.form number func)
  patch_words_line func = ap (with_line t) (patch_given_words t.form number func) ∙ line_again t line.Patch (patch_given t.form number func) refl early (λ h. absurd (omega arith))

  pub function_line : (func : List ℕ) → (t.form ≡ Single → number ≡ 1) → 0 < length func → with_line t (patch_words t.form number func) ≡ add_function t (number, func)
  unfolding line_by_word
  function_line func single some = patch_words_line func ∙ rw (patch_line_of t.form number func single small some) refl

  -- a function that is no symbol
  pub no_function_line : (func : SymId) → length t.symbols ≤ func.0 → with_line t (patch_words t.form number (name t.symbols func)) ≡ Err cause.Shape
  unfolding line_by_word
  no_function_line func unknown = rw (get_or_past t.symbols func.0 [] unknown) (patch_words_line [] ∙ rw (patch_line_none t.form number small) refl)

pub function_added : (t u : TraceValue) (number : ℕ) (func : SymId) → SoFar t → func.0 < length t.symbols → add_function t (number, name t.symbols func) ≡ Ok u → u ≡ record t { patches = take (number - 1) t.patches ++ (slice_index_or t.patches (number - 1) [] ++ func ∷ []) ∷ [] }
unfolding add_function
function_added t u number func s known h =
    let a = bind_ok (symbol_of t.symbols (name t.symbols func)) _ u h in
    let same : a.0 ≡ func = ok_is (sym a.1 ∙ symbol_again t.symbols func s.names_differ known) in
    let b = bind_ok (grown t.patches number a.0) _ u a.2 in
    let g = grown_parts t.patches number a.0 b.0 b.1 in
    let now : b.0 ≡ slice_index_or t.patches (number - 1) [] ++ func ∷ [] = sym g.now ∙ ap (λ had. had ++ a.0 ∷ []) g.place.had_is ∙ ap (λ f. slice_index_or t.patches (number - 1) [] ++ f ∷ []) same in
    sym (ok_is b.2) ∙ ap (λ patch. record t { patches = take (number - 1) t.patches ++ patch ∷ [] }) now

-- ---- A boot task

pub boot_task_line : (t : TraceValue) (task : TaskId) (class : Class) → part_reached t ≤ 3 → 0 < length t.patches → task.0 < 100000 → with_line t (boot_words (task, class)) ≡ add_boot t (task.0, class)
unfolding line_by_word boot_line
boot_task_line t task class early patched small =
    line_again t line.Boot (decimal task.0 ∷ class_word class ∷ []) refl early (λ h. patched) ∙ rw (next_number_again task.0 (class_word class ∷ []) small, last_word_again (class_word class) (class_word_some class), class_again class) refl

task_same : (task given : TaskId) → task_of task.0 ≡ Ok given → given ≡ task
unfolding task_of
task_same task given h = sym (ok_is (pass_ok (nat_le 1 task.0 && nat_lt task.0 65536) cause.Task _ given h).1)

pub boot_added : (t u : TraceValue) (task : TaskId) (class : Class) → add_boot t (task.0, class) ≡ Ok u → u ≡ record t { boots = t.boots ++ (task, class) ∷ [] }
unfolding add_boot
boot_added t u task class h =
    let a = bind_ok (task_of task.0) _ u h in
    let b = guard_ok (list_any (λ boot. boot.0.0 == a.0.0) t.boots) cause.Task _ u a.2 in
    let same : a.0 ≡ task = task_same task a.0 a.1 in
    sym (ok_is b.1) ∙ ap (λ k. record t { boots = t.boots ++ (k, class) ∷ [] }) same

-- ---- An event

pub event_read : (t : TraceValue) (e : Event) → AreNames t.symbols → IsDistinct bytes_eq t.symbols → 0 < length t.patches → IsEvent (length t.symbols) e → has_event t.form e ≡ true → with_line t (event_words t.symbols e) ≡ add_event t e
unfolding line_by_word
event_read t e names differ patched fits told =
    let again = event_again t.symbols e names differ fits in
    ap (with_line t) again.words ∙ line_again t (line.Event (word_of e)) again.given (sym (word_known t.form e) ∙ told) (before_end t) (λ h. patched) ∙ rw again.reads refl

pub event_line_of : (t : TraceValue) (e : Event) → SoFar t → 0 < length t.patches → IsEvent (length t.symbols) e → has_event t.form e ≡ true → with_line t (event_words t.symbols e) ≡ add_event t e
event_line_of t e s patched fits told = event_read t e s.names s.names_differ patched fits told

pub event_added : (t u : TraceValue) (e : Event) → add_event t e ≡ Ok u → u ≡ record t { events = t.events ++ e ∷ [] }
unfolding add_event
event_added t u e h = sym (ok_is (guard_ok (length t.events == 1000000) cause.Many _ u h).1)

-- ---- An event that no line spells

never : {A E : Type 0} (r : Result A E) → ((x : A) → r ≡ Ok x → ⊥) → IsErr r
never (Ok x) none = absurd (none x refl)
never (Err e) none = refl

err_of : {A B E : Type 0} (r : Result A E) (f : A → Result B E) → IsErr r → IsErr (r >>= f)
err_of (Ok x) f h = absurd (cc h)
err_of (Err e) f h = refl

rest_same : {A : Type 0} (x y : A) (xs ys : List A) → x ∷ xs ≡ y ∷ ys → ys ≡ xs
rest_same x y xs ys h = cc h

-- no task has the number 0
no_task : (n : ℕ) (task : TaskId) → n ≡ 0 → task_of n ≡ Ok task → ⊥
no_task n task zero_is h =
    let spelled = task_spelled n task h in
    let low : 1 ≤ task.0 = spelled.1.0 in
    omega (arith, spelled.0)

next_zero : (n : ℕ) (rest : List (List ℕ)) (x : ℕ × List (List ℕ)) → n ≡ 0 → next_number (decimal n ∷ rest) ≡ Ok x → x.0 ≡ 0
next_zero n rest x zero_is h = ap (λ y. y.0) (ok_is (sym h ∙ ap (λ m. next_number (decimal m ∷ rest)) zero_is ∙ next_number_again 0 rest (omega arith)))

next_rest : (n : ℕ) (rest : List (List ℕ)) (x : ℕ × List (List ℕ)) → next_number (decimal n ∷ rest) ≡ Ok x → x.1 ≡ rest
next_rest n rest x h = rest_same (decimal n) (decimal x.0) rest x.1 (next_number_spelled (decimal n ∷ rest) x h)

no_last : (rest : List (List ℕ)) (word : List ℕ) → rest ≡ [] ∷ [] → last_word rest ≡ Ok word → ⊥
unfolding last_word
no_last rest word is h = let e : ◌≡◌ {A = Result (List ℕ) Cause} (Err cause.Shape) (Ok word) = sym (ap last_word is) ∙ h in cc e

no_task_line : (task : TaskId) → task.0 ≡ 0 → IsErr (task_line (decimal task.0 ∷ []))
unfolding task_line
no_task_line task zero_is = never (task_line (decimal task.0 ∷ [])) (λ x h.
    let a = bind_ok (last_number (decimal task.0 ∷ [])) _ x h in
    let zero_read : last_number (decimal task.0 ∷ []) ≡ Ok 0 = ap (λ n. last_number (decimal n ∷ [])) zero_is ∙ last_number_again 0 (omega arith) in
    no_task a.0 x (ok_is (sym a.1 ∙ zero_read)) a.2)

no_call_line : (s : List (List ℕ)) (task : TaskId) (func : SymId) → (task.0 ≡ 0) ⊎ (length s ≤ func.0) → IsErr (call_line s (decimal task.0 ∷ name s func ∷ []))
unfolding call_line
no_call_line s task func out = never (call_line s (decimal task.0 ∷ name s func ∷ [])) (λ e h.
    let given : List (List ℕ) = name s func ∷ [] in
    let a = bind_ok (next_number (decimal task.0 ∷ name s func ∷ [])) _ e h in
    let b = bind_ok (last_word a.0.1) _ e a.2 in
    let d = bind_ok (symbol_of s b.0) _ e b.2 in
    let f = bind_ok (task_of a.0.0) _ e d.2 in
    elim out as (λ _. ⊥) [
      | inl zero_is ↦ no_task a.0.0 f.0 (next_zero task.0 given a.0 zero_is a.1) f.1
      | inr unknown ↦ no_last a.0.1 b.0 (next_rest task.0 given a.0 a.1 ∙ ap (λ w. w ∷ []) (get_or_past s func.0 [] unknown)) b.1
    ])

no_fork_line : (parent child : TaskId) (how : ForkKind) → (parent.0 ≡ 0) ⊎ (child.0 ≡ 0) → IsErr (fork_line (decimal parent.0 ∷ decimal child.0 ∷ fork_word how ∷ []))
unfolding fork_line
no_fork_line parent child how out = never (fork_line (decimal parent.0 ∷ decimal child.0 ∷ fork_word how ∷ [])) (λ e h.
    let given : List (List ℕ) = decimal child.0 ∷ fork_word how ∷ [] in
    let a = bind_ok (next_number (decimal parent.0 ∷ decimal child.0 ∷ fork_word how ∷ [])) _ e h in
    let b = bind_ok (next_number a.0.1) _ e a.2 in
    let d = bind_ok (last_word b.0.1) _ e b.2 in
    let k = bind_ok (needs cause.Shape (fork_kind_of d.0)) _ e d.2 in
    let f = bind_ok (task_of a.0.0) _ e k.2 in
    let g = bind_ok (task_of b.0.0) _ e f.2 in
    let second : next_number given ≡ Ok b.0 = ap next_number (sym (next_rest parent.0 given a.0 a.1)) ∙ b.1 in
    elim out as (λ _. ⊥) [
      | inl zero_is ↦ no_task a.0.0 f.0 (next_zero parent.0 given a.0 zero_is a.1) f.1
      | inr zero_is ↦ no_task b.0.0 g.0 (next_zero child.0 (fork_word how ∷ []) b.0 zero_is second) g.1
    ])

-- an event's line, which is not read
record Unread (s : List (List ℕ)) (e : Event) : Type 0 where
  word : EventKeyword
  given : List (List ℕ)
  words : event_words s e ≡ event_word word ∷ given
  known : (form : TraceForm) → has_event form e ≡ has_word form (line.Event word)
  refused : IsErr (event_line s word given)

unread : (s : List (List ℕ)) (e : Event) → IsOut (length s) e → Unread s e
unfolding event_line
unread s (Call task func) out = record { word = event.Call; given = decimal task.0 ∷ name s func ∷ []; words = refl; known = λ form. refl; refused = no_call_line s task func out }
unread s (Ret task) out = record { word = event.Ret; given = decimal task.0 ∷ []; words = refl; known = λ form. refl; refused = err_of _ _ (no_task_line task out) }
unread s (Sleep task) out = record { word = event.Sleep; given = decimal task.0 ∷ []; words = refl; known = λ form. refl; refused = err_of _ _ (no_task_line task out) }
unread s (Wake task) out = record { word = event.Wake; given = decimal task.0 ∷ []; words = refl; known = λ form. refl; refused = err_of _ _ (no_task_line task out) }
unread s (Enter task) out = record { word = event.Enter; given = decimal task.0 ∷ []; words = refl; known = λ form. refl; refused = err_of _ _ (no_task_line task out) }
unread s (Exit task) out = record { word = event.Exit; given = decimal task.0 ∷ []; words = refl; known = λ form. refl; refused = err_of _ _ (no_task_line task out) }
unread s (Idle task) out = record { word = event.Idle; given = decimal task.0 ∷ []; words = refl; known = λ form. refl; refused = err_of _ _ (no_task_line task out) }
unread s (Resched task) out = record { word = event.Resched; given = decimal task.0 ∷ []; words = refl; known = λ form. refl; refused = err_of _ _ (no_task_line task out) }
unread s (Fork parent child how) out = record { word = event.Fork; given = decimal parent.0 ∷ decimal child.0 ∷ fork_word how ∷ []; words = refl; known = λ form. refl; refused = no_fork_line parent child how out }
unread s (Die task) out = record { word = event.Die; given = decimal task.0 ∷ []; words = refl; known = λ form. refl; refused = err_of _ _ (no_task_line task out) }
unread s Walk out = absurd out
unread s Stop out = absurd out
unread s Enable out = absurd out
unread s Disable out = absurd out
unread s Reverse out = absurd out

-- a first word that is none of the text's
unknown_word : (t : TraceValue) (word : EventKeyword) → has_word t.form (line.Event word) ≡ false → first_word t (event_word word) ≡ Err cause.Word
unfolding first_word
unknown_word t word unknown = rw (line_word_again (line.Event word), unknown) refl

no_word_line : (t : TraceValue) (word : EventKeyword) (given : List (List ℕ)) → has_word t.form (line.Event word) ≡ false → with_line t (event_word word ∷ given) ≡ Err cause.Word
unfolding with_line
no_word_line t word given unknown = rw (unknown_word t word unknown) refl

err_is : {A E : Type 0} (r : Result A E) (e : E) → r ≡ Err e → IsErr r
err_is (Ok x) e h = absurd (cc h)
err_is (Err x) e h = refl

-- an event without a word in the text
pub event_untold : (t : TraceValue) (e : Event) → has_event t.form e ≡ false → IsErr (with_line t (event_words t.symbols e))
event_untold t e untold = by e untold
  where
    by : (f : Event) → has_event t.form f ≡ false → IsErr (with_line t (event_words t.symbols f))
    by (Resched task) out = err_is _ cause.Word (no_word_line t event.Resched (decimal task.0 ∷ []) out)
    by f out = absurd (cc)

pub no_event_line : (t : TraceValue) (e : Event) → 0 < length t.patches → IsOut (length t.symbols) e → IsErr (with_line t (event_words t.symbols e))
unfolding line_by_word
no_event_line t e patched out = by (has_event t.form e) refl
  where
    by : (b : Bool) → has_event t.form e ≡ b → IsErr (with_line t (event_words t.symbols e))
    by false untold = event_untold t e untold
    by true told =
        let u = unread t.symbols e out in
        rw (u.words, line_again t (line.Event u.word) u.given (sym (u.known t.form) ∙ told) (before_end t) (λ h. patched)) (err_of _ _ u.refused)
