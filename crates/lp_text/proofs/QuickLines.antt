-- Lines that are read by their first four bytes at once.
use Rattle.std.proofs.Common.{◌≡◌, ◌<◌, ◌≤◌, ◌+◌, ◌*◌, ◌-◌, ℕ, List, [], ◌∷◌, ◌++◌, length, take, drop, get_or, true, Ok, refl, sym, ap, ◌∙◌, arith, append_assoc}
use Rattle.std.specs.Prelude.{nat_le, ◌==◌, decimal, codes, slice_index_or}
use Rattle.std.specs.Char.{is_ascii_digit, digit_value}
use Rattle.std.specs.Int.{w32, to_le_bytes}
use Rattle.std.specs.List.{IsDistinct, join_with_byte, list_all}
use Rattle.std.specs.Str.{bytes_eq}
use Rattle.std.specs.Str.Parse.{digits_value}
use Rattle.std.proofs.lemmas.Bool.{and_parts, leb-true}
use Rattle.std.proofs.lemmas.Fmt.{decimal-digits_value}
use Rattle.std.proofs.lemmas.Int.Digits.{digits_value_more}
use Rattle.std.proofs.lemmas.List.{append-nil, get_or-take, length-append, length-drop, length-take-le, take-append-drop, take_all, take_more}
use Rattle.std.proofs.lemmas.List.Folds.{list_all-append}
use Rattle.std.proofs.lemmas.Str.{digit_value_digit}
use Rattle.lp_symbols.specs.declared.sym_id.SymId.{SymId}
use Rattle.lp_stack.specs.declared.number.TaskId.{TaskId}
use Rattle.lp_definitions.specs.declared.event.Event.{Event}
use Rattle.lp_definitions.specs.declared.event.Event.TheVariants.{Call, Fork, Resched}
use Rattle.lp_model.specs.declared.check.ForkKind.{ForkKind}
use Rattle.lp_text.specs.declared.form.TraceForm.{TraceForm}
use Rattle.lp_text.specs.declared.form.TraceForm.TheVariants.{Single}
use Rattle.lp_text.specs.Words.{fork_word, line_of, lines, words}
use Rattle.lp_text.specs.Traces.{AreNames, TraceValue, has_event, event_words}
use Rattle.lp_text.specs.Reading.{add_event, last_word, reading_from, symbol_of, with_line}
use Rattle.lp_text.specs.inside.Cut.{IsCut}
use Rattle.lp_text.specs.inside.Parsers.{last_symbol}
use Rattle.lp_text.specs.inside.QuickLines.{BeginsWith, IsTaken}
use Rattle.lp_text.proofs.Again.{both}
use Rattle.lp_text.proofs.Choices.{bind_ok}
use Rattle.lp_text.proofs.Complete.{event_clean, joined_no_end, line_cut, words_of_line}
use Rattle.lp_text.proofs.Numbers.{own, value_small}
use Rattle.lp_text.proofs.OnLines.{one_line}
use Rattle.lp_text.proofs.Parts.{event_read}
use Rattle.lp_text.proofs.Pushes.{not_same}
use Rattle.lp_text.proofs.Sound.{joined}
use Rattle.lp_text.proofs.Spelled.{last_word_spelled, symbol_spelled}

-- ---- Numbers in front

abbrev pub Digits : List ℕ → Type 0
Digits bytes = list_all is_ascii_digit bytes ≡ true

-- one digit more
pub digits_more : (text : List ℕ) (i : ℕ) → i < length text → Digits (take i text) → is_ascii_digit (get_or text i 0) ≡ true → Digits (take (i + 1) text)
digits_more text i below h digit =
    ap (list_all is_ascii_digit) (take_more text i 0 below)
    ∙ list_all-append is_ascii_digit (take i text) (get_or text i 0 ∷ [])
    ∙ both (list_all is_ascii_digit (take i text)) (list_all is_ascii_digit (get_or text i 0 ∷ [])) h (both (is_ascii_digit (get_or text i 0)) true digit refl)

pub number_more : (text : List ℕ) (i n : ℕ) → i < length text → i < 7 → Digits (take i text) → is_ascii_digit (get_or text i 0) ≡ true → n ≡ digits_value 10 (take i text) → (n * 10 + (get_or text i 0 - 48) ≡ digits_value 10 (take (i + 1) text)) × (n * 10 + (get_or text i 0 - 48) < 10000000) × (48 ≤ get_or text i 0)
number_more text i n below few h digit same =
    let byte : ℕ = get_or text i 0 in
    let range = and_parts (nat_le 48 byte) (nat_le byte 57) digit in
    let low : 48 ≤ byte = leb-true 48 byte range.0 in
    let high : byte ≤ 57 = leb-true byte 57 range.1 in
    let value : digit_value byte + 48 ≡ byte = digit_value_digit byte (low, high) in
    let more : digits_value 10 (take (i + 1) text) ≡ digits_value 10 (take i text) * 10 + digit_value byte = digits_value_more 10 text i below in
    let long : length (take (i + 1) text) ≡ i + 1 = length-take-le (i + 1) text (omega arith) in
    let small : digits_value 10 (take (i + 1) text) < 10000000 = value_small (take (i + 1) text) (digits_more text i below h digit) (omega arith) in
    (omega arith, omega arith, low)

pub number_few : (text : List ℕ) (i n : ℕ) → i ≤ 7 → i ≤ length text → Digits (take i text) → n ≡ digits_value 10 (take i text) → n < 10000000
number_few text i n few within digits is =
    let small : digits_value 10 (take i text) < 10000000 = value_small (take i text) digits (omega (arith, length-take-le i text within)) in
    omega arith

-- the digits spell the number
pub number_whole : (text : List ℕ) (i n : ℕ) → 0 < i → i ≤ 7 → i ≤ length text → Digits (take i text) → ¬ (get_or text 0 0 ≡ 48) → n ≡ digits_value 10 (take i text) → text ≡ decimal n ++ take (length text - i) (drop i text)
number_whole text i n some few within digits first is =
    let word : List ℕ = take i text in
    let long : length (take i text) ≡ i = length-take-le i text within in
    let head : get_or (take i text) 0 0 ≡ get_or text 0 0 = get_or-take i text 0 0 some in
    let small : digits_value 10 (take i text) < 10000000 = value_small (take i text) digits (omega arith) in
    let same : decimal (digits_value 10 (take i text)) ≡ take i text = decimal-digits_value own (take i text) digits (omega arith) (λ zero_first. absurd (first (sym head ∙ zero_first))) (omega arith) in
    let rest : take (length text - i) (drop i text) ≡ drop i text = take_all (length text - i) (drop i text) (omega (arith, length-drop i text)) in
    sym (take-append-drop i text)
    ∙ (ap (λ w. w ++ drop i text) (sym same)
    ∙ (ap (λ m. decimal m ++ drop i text) (sym is) ∙ ap (λ r. decimal n ++ r) (sym rest)))

-- ---- Lines of events

-- first bytes, more of them, a number and the line's end
pub of_task : (first between text left inner more : List ℕ) (word value n : ℕ) → text ≡ to_le_bytes w32 word ++ left → word ≡ value → to_le_bytes w32 value ≡ first → left ≡ between ++ inner → inner ≡ decimal n ++ 10 ∷ more → text ≡ first ++ (between ++ ((decimal n ++ 10 ∷ []) ++ more))
of_task first between text left inner more word value n whole is bytes after number =
    whole
    ∙ (ap (λ w. to_le_bytes w32 w ++ left) is
    ∙ (ap (λ b. b ++ left) bytes
    ∙ (ap (λ l. first ++ l) after
    ∙ (ap (λ l. first ++ (between ++ l)) number ∙ ap (λ l. first ++ (between ++ l)) (sym (append_assoc (decimal n) (10 ∷ []) more))))))

-- first bytes and the line's end
pub of_word : (first text left more : List ℕ) (word value : ℕ) → text ≡ to_le_bytes w32 word ++ left → word ≡ value → to_le_bytes w32 value ≡ first → left ≡ 10 ∷ more → text ≡ first ++ 10 ∷ more
of_word first text left more word value whole is bytes end =
    whole ∙ (ap (λ w. to_le_bytes w32 w ++ left) is ∙ (ap (λ b. b ++ left) bytes ∙ ap (λ l. first ++ l) end))

regroup : (a b more : List ℕ) → ((a ++ 32 ∷ b) ++ 10 ∷ []) ++ more ≡ a ++ 32 ∷ (b ++ 10 ∷ more)
regroup a b more = simp append_assoc

pub of_call : (symbols : List (List ℕ)) (text one two three name more : List ℕ) (task : TaskId) (func : SymId) → text ≡ 32 ∷ one → one ≡ decimal task.0 ++ two → two ≡ 32 ∷ three → three ≡ name ++ 10 ∷ more → name ≡ slice_index_or symbols func.0 [] → codes "call" ++ text ≡ line_of (event_words symbols (Call task func)) ++ more
of_call symbols text one two three name more task func first number second end named =
    let symbol : List ℕ = slice_index_or symbols func.0 [] in
    let whole : text ≡ 32 ∷ (decimal task.0 ++ 32 ∷ (slice_index_or symbols func.0 [] ++ 10 ∷ more)) =
    first ∙ ap (λ l. 32 ∷ l) (number ∙ (ap (λ l. decimal task.0 ++ l) (second ∙ ap (λ l. 32 ∷ l) (end ∙ ap (λ w. w ++ 10 ∷ more) named))))
    in
    ap (λ t. codes "call" ++ t) (whole ∙ ap (λ l. 32 ∷ l) (sym (regroup (decimal task.0) (slice_index_or symbols func.0 []) more)))

regroup_fork : (a b c more : List ℕ) → ((a ++ 32 ∷ (b ++ 32 ∷ c)) ++ 10 ∷ []) ++ more ≡ a ++ 32 ∷ (b ++ 32 ∷ (c ++ 10 ∷ more))
regroup_fork a b c more = simp append_assoc

pub of_fork : (symbols : List (List ℕ)) (text one two three four last more : List ℕ) (parent child : TaskId) (how : ForkKind) → text ≡ 32 ∷ one → one ≡ decimal parent.0 ++ two → two ≡ 32 ∷ three → three ≡ decimal child.0 ++ four → four ≡ 32 ∷ last → last ≡ fork_word how ++ 10 ∷ more → codes "fork" ++ text ≡ line_of (event_words symbols (Fork parent child how)) ++ more
of_fork symbols text one two three four last more parent child how first older second younger third kind =
    let whole : text ≡ 32 ∷ (decimal parent.0 ++ 32 ∷ (decimal child.0 ++ 32 ∷ (fork_word how ++ 10 ∷ more))) =
    first ∙ ap (λ l. 32 ∷ l) (older ∙ ap (λ l. decimal parent.0 ++ l) (second ∙ ap (λ l. 32 ∷ l) (younger ∙ ap (λ l. decimal child.0 ++ l) (third ∙ ap (λ l. 32 ∷ l) kind))))
    in
    ap (λ t. codes "fork" ++ t) (whole ∙ ap (λ l. 32 ∷ l) (sym (regroup_fork (decimal parent.0) (decimal child.0) (fork_word how) more)))

-- the name of the symbol that a last word names
pub cached_is : (symbols : List (List ℕ)) (name : List ℕ) (id : SymId) → last_symbol symbols (words name) ≡ Ok id → (id.0 < length symbols) × (name ≡ slice_index_or symbols id.0 [])
cached_is symbols name id h =
    let a = bind_ok (last_word (words name)) (symbol_of symbols) id h in
    let symbol = symbol_spelled symbols a.0 id a.2 in
    let alone : words name ≡ a.0 ∷ [] = last_word_spelled (words name) a.0 a.1 in
    (symbol.1, sym (joined 32 name) ∙ (ap (join_with_byte 32) alone ∙ symbol.0))

-- an event with a word in the first text has one in each
in_each_text : (form : TraceForm) (e : Event) → has_event Single e ≡ true → has_event form e ≡ true
in_each_text form (Resched task) h = absurd (cc)
in_each_text form _ h = refl

-- ---- A line that is taken

event_added : (t u : TraceValue) (e : Event) → length t.events < 1000000 → u ≡ record t { events = t.events ++ e ∷ [] } → add_event t e ≡ Ok u
unfolding add_event
event_added t u e room is = rw (not_same (length t.events) 1000000 (length t.events == 1000000) refl (λ same. omega arith)) (ap (λ v. Ok v) (sym is))

pub taken : (t u : TraceValue) (e : Event) (text rest : List ℕ) → AreNames t.symbols → IsDistinct bytes_eq t.symbols → 0 < length t.patches → length t.events < 1000000 → BeginsWith t.symbols text e rest → u ≡ record t { events = t.events ++ e ∷ [] } → IsTaken t u text rest
taken t u e text rest names differ patched room begins is =
    let ws : List (List ℕ) = event_words t.symbols e in
    let line : List ℕ = join_with_byte 32 (event_words t.symbols e) in
    let clean = event_clean t.symbols e names begins.0.0 in
    let whole : text ≡ line ++ 10 ∷ rest = begins.1 ∙ append_assoc line (10 ∷ []) rest in
    let cut : IsCut 10 text line rest = record { whole = whole; again = λ tail. line_cut line tail (joined_no_end ws clean.1) } in
    let gives : with_line t (words line) ≡ Ok u = ap (with_line t) (words_of_line ws clean) ∙ (event_read t e names differ patched begins.0.0 (in_each_text t.form e begins.0.1) ∙ event_added t u e room is) in
    record {
      shorter = omega (arith, ap length whole, length-append line (10 ∷ rest));
      reads = λ number bytes. one_line number t text line rest cut u gives bytes;
    }

-- what a text gives where nothing follows
pub taken_alone : (t u : TraceValue) (text rest : List ℕ) (number : ℕ) → IsTaken t u text rest → reading_from number t (lines text) ≡ reading_from (number + 1) u (lines rest)
taken_alone t u text rest number h =
    ap (λ l. reading_from number t (lines l)) (sym (append-nil text)) ∙ (h.reads number [] ∙ ap (λ l. reading_from (number + 1) u (lines l)) (append-nil rest))
