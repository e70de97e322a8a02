-- The spelling of a trace is read again as that trace.
use Rattle.std.proofs.Common.{◌≡◌, ◌<◌, ◌≤◌, ◌+◌, ℕ, suc, true, false, List, [], ◌∷◌, ◌++◌, length, map, get_or, None, Result, Ok, refl, sym, ap, ◌∙◌, arith, subst, append_assoc}
use Rattle.std.specs.Prelude.{nat_le, nat_lt, ◌==◌, decimal}
use Rattle.std.specs.Char.{is_ascii_graphic, is_ascii_digit}
use Rattle.std.specs.List.{All, AllByRecursion, flat_map, join_with_byte, list_all}
use Rattle.std.proofs.lemmas.Bool.{and_parts, leb-true, ltb-true}
use Rattle.std.proofs.lemmas.Bool.Decides.{Decides-ltb}
use Rattle.std.proofs.lemmas.Fmt.{digits_decimal}
use Rattle.std.proofs.lemmas.List.{length-append}
use Rattle.std.proofs.lemmas.List.Folds.{list_all-append}
use Rattle.std.proofs.lemmas.List.Sums.{AllPass-from_list_all}
use Rattle.std.proofs.lemmas.List.Splits.{slice_split_none, slice_split_at}
use Rattle.lp_symbols.specs.declared.sym_id.SymId.{SymId}
use Rattle.lp_symbols.specs.Names.{is_name}
use Rattle.lp_stack.specs.declared.number.TaskId.{TaskId}
use Rattle.lp_stack.specs.declared.view.Class.{Class}
use Rattle.lp_stack.specs.declared.view.Class.TheVariants as class
use Rattle.lp_model.specs.declared.check.ForkKind.{ForkKind}
use Rattle.lp_model.specs.declared.check.ForkKind.TheVariants as fork
use Rattle.lp_definitions.specs.declared.event.Event.{Event}
use Rattle.lp_definitions.specs.declared.event.Event.TheVariants.{Call, Ret, Sleep, Wake, Enter, Exit, Idle, Resched, Fork, Die, Walk, Stop, Enable, Disable, Reverse}
use Rattle.lp_patch.specs.Patches.{patch_refusal}
use Rattle.lp_text.specs.declared.form.TraceForm.{TraceForm}
use Rattle.lp_text.specs.declared.form.TraceForm.TheVariants.{Single, Stacked, WithResched}
use Rattle.lp_text.specs.declared.fault.Cause.TheVariants as cause
use Rattle.lp_text.specs.declared.fault.TraceFault.{TraceFault}
use Rattle.lp_text.specs.declared.fault.ReadFault.{ReadFault}
use Rattle.lp_text.specs.Faults.{Gives}
use Rattle.lp_text.specs.Words.{header, class_word, fork_word, line_of, lines, parts, words}
use Rattle.lp_text.specs.Traces.{TraceValue, IsTrace, AreNames, IsTask, IsEvent, most_patches, name, sym_words, patch_words, boot_words, event_words, patch_lines, lines_after_header, text_of}
use Rattle.lp_text.specs.Reading.{◌>>=◌, needs, at_end, empty, fault_at, reading, reading_from, reading_lines, with_line}
use Rattle.lp_text.proofs.Choices.{bind_ok}
use Rattle.lp_text.proofs.Lines.{step, first}
use Rattle.lp_text.proofs.Numbers.{own}
use Rattle.lp_text.proofs.Pushes.{not_same, not_less, all_at}
use Rattle.lp_text.proofs.Symbols.{name_graphic}
use Rattle.lp_text.proofs.Again.{at_most, both, form_again}
use Rattle.lp_text.proofs.Folds.{trace, fold_lines, fold_append, symbols_fold, patches_fold, boots_fold, events_fold}
use Rattle.lp_text.proofs.Writing.{known_at}

-- ---- All lines, one after another

pub all_fold : (u : TraceValue) → IsTrace u → fold_lines (empty u.form) (lines_after_header u) ≡ Ok u
unfolding lines_after_header
all_fold u t =
    let f = u.form in
    let s = u.symbols in
    let p = u.patches in
    let b = u.boots in
    let some : 0 < length p = t.patches_some in
    let one : fold_lines (empty f) (map sym_words s) ≡ Ok (trace f s [] [] []) = symbols_fold f [] s t.names t.names_differ t.symbols_few in
    let two : fold_lines (empty f) (map sym_words s ++ patch_lines f s 1 p) ≡ Ok (trace f s p [] []) =
    fold_append (empty f) (trace f s [] [] []) (map sym_words s) (patch_lines f s 1 p) one ∙ patches_fold f s t.names t.names_differ [] p t.patches_few t.patches
    in
    let three : fold_lines (empty f) (map sym_words s ++ patch_lines f s 1 p ++ map boot_words b) ≡ Ok (trace f s p b []) =
    fold_append (empty f) (trace f s p [] []) (map sym_words s ++ patch_lines f s 1 p) (map boot_words b) two ∙ boots_fold f s p [] b some t.boots t.boots_differ
    in
    fold_append (empty f) (trace f s p b []) (map sym_words s ++ patch_lines f s 1 p ++ map boot_words b) (map (event_words s) u.events) three ∙ events_fold f s p b [] u.events some t.names t.names_differ t.events t.events_told t.events_few

-- ---- Words without spaces and ends

abbrev pub Clean : List ℕ → Type 0
Clean word = list_all (nat_lt 32) word ≡ true

abbrev pub CleanLine : List (List ℕ) → Type 0
CleanLine line = (0 < length line) × AllByRecursion (λ word. list_all (nat_lt 32) word ≡ true) line

above : (n : ℕ) → 32 < n → nat_lt 32 n ≡ true
above n h = (Decides-ltb 32 n).1 h

graphic_clean : (word : List ℕ) → list_all is_ascii_graphic word ≡ true → Clean word
graphic_clean [] h = refl
graphic_clean (c ∷ cs) h =
    let a = and_parts (is_ascii_graphic c) (list_all is_ascii_graphic cs) h in
    let low : 33 ≤ c = leb-true 33 c (and_parts (nat_le 33 c) (nat_le c 126) a.0).0 in
    both (nat_lt 32 c) (list_all (nat_lt 32) cs) (above c (omega arith)) (graphic_clean cs a.1)

digits_clean : (word : List ℕ) → list_all is_ascii_digit word ≡ true → Clean word
digits_clean [] h = refl
digits_clean (c ∷ cs) h =
    let a = and_parts (is_ascii_digit c) (list_all is_ascii_digit cs) h in
    let low : 48 ≤ c = leb-true 48 c (and_parts (nat_le 48 c) (nat_le c 57) a.0).0 in
    both (nat_lt 32 c) (list_all (nat_lt 32) cs) (above c (omega arith)) (digits_clean cs a.1)

pub number_clean : (n : ℕ) → n < 10000000 → Clean (decimal n)
number_clean n small = digits_clean (decimal n) (digits_decimal own n (omega arith))

task_clean : (task : TaskId) → IsTask task → Clean (decimal task.0)
task_clean task h = let high : task.0 < 65536 = h.1 in number_clean task.0 (omega arith)

pub symbol_clean : (symbol : List ℕ) → is_name symbol ≡ true → Clean symbol
symbol_clean symbol h = graphic_clean symbol (name_graphic symbol h)

name_clean : (s : List (List ℕ)) (id : SymId) → AreNames s → id.0 < length s → Clean (name s id)
name_clean s id names known = symbol_clean (name s id) (all_at (λ n. is_name n ≡ true) s id.0 [] names known)

class_clean : (c : Class) → Clean (class_word c)
class_clean class.Normal = refl
class_clean class.Idle = refl

fork_clean : (k : ForkKind) → Clean (fork_word k)
fork_clean fork.Own = refl
fork_clean fork.Share = refl

-- ---- Lines without spaces and ends in their words

pub event_clean : (s : List (List ℕ)) (e : Event) → AreNames s → IsEvent (length s) e → CleanLine (event_words s e)
event_clean s (Call task func) names h = (omega arith, (refl, (task_clean task h.0, (name_clean s func names h.1, tt))))
event_clean s (Ret task) names h = (omega arith, (refl, (task_clean task h, tt)))
event_clean s (Sleep task) names h = (omega arith, (refl, (task_clean task h, tt)))
event_clean s (Wake task) names h = (omega arith, (refl, (task_clean task h, tt)))
event_clean s (Enter task) names h = (omega arith, (refl, (task_clean task h, tt)))
event_clean s (Exit task) names h = (omega arith, (refl, (task_clean task h, tt)))
event_clean s (Idle task) names h = (omega arith, (refl, (task_clean task h, tt)))
event_clean s (Resched task) names h = (omega arith, (refl, (task_clean task h, tt)))
event_clean s (Fork parent child how) names h = (omega arith, (refl, (task_clean parent h.0, (task_clean child h.1, (fork_clean how, tt)))))
event_clean s (Die task) names h = (omega arith, (refl, (task_clean task h, tt)))
event_clean s Walk names h = (omega arith, (refl, tt))
event_clean s Stop names h = (omega arith, (refl, tt))
event_clean s Enable names h = (omega arith, (refl, tt))
event_clean s Disable names h = (omega arith, (refl, tt))
event_clean s Reverse names h = (omega arith, (refl, tt))

function_clean : (f : TraceForm) (n : ℕ) (func : List ℕ) → n < 100000 → Clean func → CleanLine (patch_words f n func)
function_clean Single n func small h = (omega arith, (refl, (h, tt)))
function_clean Stacked n func small h = (omega arith, (refl, (number_clean n (omega arith), (h, tt))))
function_clean WithResched n func small h = (omega arith, (refl, (number_clean n (omega arith), (h, tt))))

module _ {A B : Type 0} (P : A → Type 0) (Q : B → Type 0) (g : A → B) (each : (x : A) → P x → Q (g x)) where
  pub all_map : (xs : List A) → AllByRecursion P xs → AllByRecursion Q (map g xs)
  all_map [] h = tt
  all_map (x ∷ xs) h = (each x h.0, all_map xs h.1)

pub all_both : {A : Type 0} (P : A → Type 0) (xs ys : List A) → AllByRecursion P xs → AllByRecursion P ys → AllByRecursion P (xs ++ ys)
all_both P [] ys h k = k
all_both P (x ∷ xs) ys h k = (h.0, all_both P xs ys h.1 k)

functions_clean : (f : TraceForm) (s : List (List ℕ)) (n : ℕ) (ids : List SymId) → n < 100000 → AreNames s → ((i : ℕ) → i < length ids → (get_or ids i (record { 0 = 0 })).0 < length s) → AllByRecursion CleanLine (map (λ func. patch_words f n (name s func)) ids)
functions_clean f s n [] small names known = tt
functions_clean f s n (id ∷ ids) small names known =
    (function_clean f n (name s id) small (name_clean s id names (known 0 (omega arith))), functions_clean f s n ids small names (λ i below. known (suc i) (omega arith)))

patches_clean : (f : TraceForm) (s : List (List ℕ)) (n : ℕ) (p : List (List SymId)) → n + length p < 100000 → AreNames s → AllByRecursion (λ patch. patch_refusal (length s) patch ≡ None) p → AllByRecursion CleanLine (patch_lines f s n p)
unfolding patch_lines
patches_clean f s n [] small names good = tt
patches_clean f s n (ids ∷ rest) small names good =
    let first : n < 100000 = omega arith in
    let next : n + 1 + length rest < 100000 = omega arith in
    all_both CleanLine (map (λ func. patch_words f n (name s func)) ids) (patch_lines f s (n + 1) rest) (functions_clean f s n ids first names (λ i below. known_at (length s) ids i (record { 0 = 0 }) good.0 below)) (patches_clean f s (n + 1) rest next names good.1)

few_enough : (f : TraceForm) (n : ℕ) → n ≤ most_patches f → n ≤ 16
few_enough Single n h = omega arith
few_enough Stacked n h = h
few_enough WithResched n h = h

pub all_clean : (u : TraceValue) → IsTrace u → AllByRecursion CleanLine (lines_after_header u)
unfolding lines_after_header
all_clean u t =
    let f = u.form in
    let s = u.symbols in
    let few : length u.patches ≤ 16 = few_enough f (length u.patches) t.patches_few in
    all_both CleanLine (map sym_words s ++ patch_lines f s 1 u.patches ++ map boot_words u.boots) (map (event_words s) u.events)
    (all_both CleanLine (map sym_words s ++ patch_lines f s 1 u.patches) (map boot_words u.boots)
    (all_both CleanLine (map sym_words s) (patch_lines f s 1 u.patches)
    (all_map (λ n. is_name n ≡ true) CleanLine sym_words (λ symbol h. (omega arith, (refl, (symbol_clean symbol h, tt)))) s t.names)
    (patches_clean f s 1 u.patches (omega arith) t.names t.patches))
    (all_map (λ boot. IsTask boot.0) CleanLine boot_words (λ boot h. (omega arith, (refl, (task_clean boot.0 h, (class_clean boot.1, tt))))) u.boots t.boots))
    (all_map (IsEvent (length s)) CleanLine (event_words s) (λ e h. event_clean s e t.names h) u.events t.events)

-- ---- Cutting a text at its line ends, and a line at its spaces

apart : (at : ℕ) (c : ℕ) → at ≤ 32 → nat_lt 32 c ≡ true → (c == at) ≡ false
apart at c h k = let low : 32 < c = ltb-true 32 c k in not_same c at (c == at) refl (λ e. omega arith)

clean_apart : (at : ℕ) (word : List ℕ) → at ≤ 32 → Clean word → All (λ c. (c == at) ≡ false) word
clean_apart at word h clean =
    let all = AllPass-from_list_all (nat_lt 32) word clean in
    λ k d below. apart at (get_or word k d) h (all k d below)

pub words_again : (word : List ℕ) (rest : List (List ℕ)) → AllByRecursion (λ w. Clean w) (word ∷ rest) → words (join_with_byte 32 (word ∷ rest)) ≡ word ∷ rest
unfolding parts
words_again word [] h = slice_split_none (λ b. b == 32) word (clean_apart 32 word (omega arith) h.0)
words_again word (next ∷ rest) h =
    slice_split_at (λ b. b == 32) word 32 (join_with_byte 32 (next ∷ rest)) (clean_apart 32 word (omega arith) h.0) refl ∙ ap (λ ws. word ∷ ws) (words_again next rest h.1)

-- bytes with no line end among them
abbrev pub NoEnd : List ℕ → Type 0
NoEnd bytes = list_all (λ b. nat_le 32 b) bytes ≡ true

clean_no_end : (word : List ℕ) → Clean word → NoEnd word
clean_no_end [] h = refl
clean_no_end (c ∷ cs) h =
    let a = and_parts (nat_lt 32 c) (list_all (nat_lt 32) cs) h in
    let low : 32 < c = ltb-true 32 c a.0 in
    both (nat_le 32 c) (list_all (λ b. nat_le 32 b) cs) (at_most 32 c (omega arith)) (clean_no_end cs a.1)

pub joined_no_end : (ws : List (List ℕ)) → AllByRecursion (λ w. Clean w) ws → NoEnd (join_with_byte 32 ws)
joined_no_end [] h = refl
joined_no_end (word ∷ []) h = clean_no_end word h.0
joined_no_end (word ∷ next ∷ rest) h =
    list_all-append (λ b. nat_le 32 b) word (32 ∷ join_with_byte 32 (next ∷ rest)) ∙ both (list_all (λ b. nat_le 32 b) word) (list_all (λ b. nat_le 32 b) (join_with_byte 32 (next ∷ rest))) (clean_no_end word h.0) (joined_no_end (next ∷ rest) h.1)

no_end_apart : (bytes : List ℕ) → NoEnd bytes → All (λ c. (c == 10) ≡ false) bytes
no_end_apart bytes h =
    let all = AllPass-from_list_all (λ b. nat_le 32 b) bytes h in
    λ k d below. let low : 32 ≤ get_or bytes k d = leb-true 32 (get_or bytes k d) (all k d below) in not_same (get_or bytes k d) 10 (get_or bytes k d == 10) refl (λ e. omega arith)

pub line_cut : (line rest : List ℕ) → NoEnd line → parts 10 (line ++ 10 ∷ rest) ≡ line ∷ parts 10 rest
unfolding parts
line_cut line rest h = slice_split_at (λ b. b == 10) line 10 rest (no_end_apart line h) refl

-- the lines of a text, and nothing after the last
abbrev pub texts : List (List (List ℕ)) → List (List ℕ)
texts ls = map (join_with_byte 32) ls ++ [] ∷ []

nothing_left : parts 10 [] ≡ [] ∷ []
unfolding parts
nothing_left = refl

pub lines_again : (ls : List (List (List ℕ))) → AllByRecursion CleanLine ls → parts 10 (flat_map line_of ls) ≡ texts ls
lines_again [] h = nothing_left
lines_again (ws ∷ ls) h =
    ap (parts 10) (append_assoc (join_with_byte 32 ws) (10 ∷ []) (flat_map line_of ls)) ∙ line_cut (join_with_byte 32 ws) (flat_map line_of ls) (joined_no_end ws h.0.1) ∙ ap (λ r. join_with_byte 32 ws ∷ r) (lines_again ls h.1)

-- ---- Reading

pub some_texts : (ls : List (List (List ℕ))) → 0 < length (texts ls)
some_texts ls = omega (arith, length-append (map (join_with_byte 32) ls) ([] ∷ []))

pub words_of_line : (ws : List (List ℕ)) → CleanLine ws → words (join_with_byte 32 ws) ≡ ws
words_of_line [] h = absurd (omega (arith, h.0))
words_of_line (word ∷ rest) h = words_again word rest h.1

read_again : (n : ℕ) (t u : TraceValue) (ls : List (List (List ℕ))) → AllByRecursion CleanLine ls → fold_lines t ls ≡ Ok u → at_end u [] ≡ Ok u → reading_from n t (texts ls) ≡ Ok u
unfolding reading_from
read_again n t u [] clean h ends =
    let same : t ≡ u = cc h in
    ap (λ v. fault_at n (at_end v [])) same ∙ ap (fault_at n) ends
read_again n t u (ws ∷ ls) clean h ends =
    let a = bind_ok (with_line t ws) (λ v. fold_lines v ls) u h in
    let line : with_line t (words (join_with_byte 32 ws)) ≡ Ok a.0 = ap (with_line t) (words_of_line ws clean.0) ∙ a.1 in
    step n t (join_with_byte 32 ws) (texts ls) (some_texts ls)
    ∙ ap (λ r. fault_at n r >>= λ v. reading_from (n + 1) v (texts ls)) line
    ∙ read_again (n + 1) a.0 u ls clean.1 a.2 ends

ends_well : (u : TraceValue) → 1 ≤ length u.patches → at_end u [] ≡ Ok u
unfolding at_end
ends_well u h = rw (not_same (length u.patches) 0 (length u.patches == 0) refl (λ e. omega arith)) refl

header_no_end : (f : TraceForm) → NoEnd (header f)
header_no_end Single = refl
header_no_end Stacked = refl
header_no_end WithResched = refl

-- the lines of a text that begins as a trace does
pub header_cut : (f : TraceForm) (ls : List (List (List ℕ))) → AllByRecursion CleanLine ls → lines (header f ++ 10 ∷ [] ++ flat_map line_of ls) ≡ header f ∷ texts ls
header_cut f ls clean =
    ap (parts 10) (append_assoc (header f) (10 ∷ []) (flat_map line_of ls))
    ∙ line_cut (header f) (flat_map line_of ls) (header_no_end f)
    ∙ ap (λ l. header f ∷ l) (lines_again ls clean)

pub header_read : (u : TraceValue) → IsTrace u → reading_lines (header u.form ∷ texts (lines_after_header u)) ≡ Ok u
header_read u t =
    let f = u.form in
    let ls = lines_after_header u in
    first (header f) (texts ls) (some_texts ls)
    ∙ ap (λ o. fault_at 1 (needs cause.Header o) >>= λ g. reading_from 2 (empty g) (texts ls)) (form_again f)
    ∙ read_again 2 (empty f) u ls (all_clean u t) (all_fold u t) (ends_well u t.patches_some)

text_cut : (u : TraceValue) → IsTrace u → reading_lines (lines (text_of u)) ≡ Ok u
unfolding text_of
text_cut u t = ap reading_lines (header_cut u.form (lines_after_header u) (all_clean u t)) ∙ header_read u t

pub complete : (u : TraceValue) → IsTrace u → reading (text_of u) ≡ Ok u
unfolding reading
complete u t = rw (not_less 134217728 (length (text_of u)) (nat_lt 134217728 (length (text_of u))) refl t.size) (text_cut u t)

-- what a reader gives is what the text spells
pub gives_it : {X : Type 0} (view : X → TraceValue) (r : Result X ReadFault) (text : List ℕ) → Gives view r (reading text) → (u : TraceValue) → IsTrace u → text ≡ text_of u → Gives view r (Ok u)
gives_it view r text h u t e =
    let P : Result TraceValue TraceFault → Type 0 = λ x. Gives view r x in
    subst P (ap reading e ∙ complete u t) h

-- a trace has one spelling, and a text spells one trace
pub one_value : (u v : TraceValue) → IsTrace u → IsTrace v → text_of u ≡ text_of v → u ≡ v
one_value u v s t h =
    let a : ◌≡◌ {A = Result TraceValue TraceFault} (Ok u) (Ok v) = sym (complete u s) ∙ ap reading h ∙ complete v t in
    cc a
