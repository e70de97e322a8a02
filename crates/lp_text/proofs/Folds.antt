-- The lines of a trace are read again, one after another.
use Rattle.std.proofs.Common.{◌≡◌, ◌<◌, ◌≤◌, ◌+◌, ◌-◌, ℕ, Bool, true, false, List, [], ◌∷◌, ◌++◌, length, map, take, None, Result, Ok, cond, refl, sym, ap, ◌∙◌, arith, subst, append_assoc}
use Rattle.std.specs.Prelude.{nat_le, nat_lt, ◌==◌, ◌&&◌, decimal, slice_index_or}
use Rattle.std.specs.List.{AllByRecursion, IsDistinct, list_any}
use Rattle.std.specs.Str.{bytes_eq}
use Rattle.std.proofs.lemmas.Bool.{ltb-true, ltb-false}
use Rattle.std.proofs.lemmas.Bool.Decides.{Decides-eqb}
use Rattle.std.proofs.lemmas.List.{append-nil, get_or_past, length-append, take_all}
use Rattle.lp_symbols.specs.declared.sym_id.SymId.{SymId}
use Rattle.lp_symbols.specs.Names.{is_name}
use Rattle.lp_stack.specs.declared.number.TaskId.{TaskId}
use Rattle.lp_stack.specs.declared.view.Class.{Class}
use Rattle.lp_patch.specs.declared.fault.PatchFault.TheVariants as patch
use Rattle.lp_patch.specs.Patches.{first_fault, patch_refusal}
use Rattle.lp_definitions.specs.declared.event.Event.{Event}
use Rattle.lp_text.specs.declared.form.TraceForm.{TraceForm}
use Rattle.lp_text.specs.declared.form.TraceForm.TheVariants.{Single, Stacked, WithResched}
use Rattle.lp_text.specs.declared.keyword.LineKeyword.{LineKeyword}
use Rattle.lp_text.specs.declared.keyword.LineKeyword.TheVariants as line
use Rattle.lp_text.specs.declared.fault.Cause.{Cause}
use Rattle.lp_text.specs.Words.{line_word, has_word, class_word}
use Rattle.lp_text.specs.Traces.{TraceValue, AreNames, IsTask, IsEvent, has_event, most_patches, name, sym_words, patch_words, boot_words, event_words, patch_lines}
use Rattle.lp_text.specs.Reading.{◌>>=◌, add_symbol, begun, grown, add_function, add_boot, add_event, part_of, part_reached, first_word, line_by_word, with_line}
use Rattle.lp_text.proofs.Choices.{bind_ok}
use Rattle.lp_text.proofs.Pushes.{not_same, not_less, none_if, or_parts, or_false, same_either_way}
use Rattle.lp_text.proofs.Writing.{at_most_false}
use Rattle.lp_text.proofs.Again.{at_most, both, line_word_again, last_word_again, name_some, name_at_some, symbol_again, task_again, boot_line_again, patch_given, patch_given_words, patch_line_again, Again, event_again, word_of, word_known}

abbrev pub trace : TraceForm → List (List ℕ) → List (List SymId) → List (TaskId × Class) → List Event → TraceValue
trace f s p b e = record { form = f; symbols = s; patches = p; boots = b; events = e }

-- the lines, one after another
abbrev pub fold_lines : TraceValue → List (List (List ℕ)) → Result TraceValue Cause
fold_lines t [] = Ok t
fold_lines t (words ∷ more) = with_line t words >>= λ u. fold_lines u more

pub fold_step : (t u v : TraceValue) (words : List (List ℕ)) (more : List (List (List ℕ))) → with_line t words ≡ Ok u → fold_lines u more ≡ Ok v → fold_lines t (words ∷ more) ≡ Ok v
fold_step t u v words more h k = ap (λ r. r >>= λ w. fold_lines w more) h ∙ k

pub fold_append : (t u : TraceValue) (xs ys : List (List (List ℕ))) → fold_lines t xs ≡ Ok u → fold_lines t (xs ++ ys) ≡ fold_lines u ys
fold_append t u [] ys h = let same : t ≡ u = cc h in ap (λ w. fold_lines w ys) same
fold_append t u (words ∷ xs) ys h =
    let a = bind_ok (with_line t words) (λ w. fold_lines w xs) u h in
    ap (λ r. r >>= λ w. fold_lines w (xs ++ ys)) a.1 ∙ fold_append a.0 u xs ys a.2

-- ---- First words

pub at_most_either : (b : Bool) (x y n : ℕ) → x ≤ n → y ≤ n → cond b x y ≤ n
at_most_either true x y n h k = h
at_most_either false x y n h k = k

and_no : (a b : Bool) → (a ≡ true → b ≡ false) → (a && b) ≡ false
and_no true b h = h refl
and_no false b h = refl

pub first_again : (t : TraceValue) (l : LineKeyword) → has_word t.form l ≡ true → part_reached t ≤ part_of l → (2 < part_of l → 0 < length t.patches) → first_word t (line_word l) ≡ Ok l
unfolding first_word
first_again t l known early patched =
    let no : (nat_lt 2 (part_of l) && length t.patches == 0) ≡ false =
    and_no (nat_lt 2 (part_of l)) (length t.patches == 0) (λ h. let some : 0 < length t.patches = patched (ltb-true 2 (part_of l) h) in not_same (length t.patches) 0 (length t.patches == 0) refl (λ e. omega arith))
    in
    rw (line_word_again l, known, not_less (part_of l) (part_reached t) (nat_lt (part_of l) (part_reached t)) refl early, no) refl

pub line_again : (t : TraceValue) (l : LineKeyword) (given : List (List ℕ)) → has_word t.form l ≡ true → part_reached t ≤ part_of l → (2 < part_of l → 0 < length t.patches) → with_line t (line_word l ∷ given) ≡ line_by_word t l given
unfolding with_line
line_again t l given known early patched = rw (first_again t l known early patched) refl

-- ---- Elements that differ

pub middle : {A : Type 0} (P : A → Type 0) (xs : List A) (y : A) (ys : List A) → AllByRecursion P (xs ++ y ∷ ys) → P y
middle P [] y ys h = h.0
middle P (x ∷ xs) y ys h = middle P xs y ys h.1

module _ {A : Type 0} (eq : A → A → Bool) where
  pub apart_before : (xs : List A) (y : A) (ys : List A) → IsDistinct eq (xs ++ y ∷ ys) → list_any (λ x. eq x y) xs ≡ false
  unfolding IsDistinct
  apart_before [] y ys h = refl
  apart_before (x ∷ xs) y ys h =
      let here : eq x y ≡ false = middle (λ z. eq x z ≡ false) xs y ys h.0 in
      rw (here, apart_before xs y ys h.1) refl

-- ---- Symbols

fresh_name : (done : List (List ℕ)) (symbol : List ℕ) → list_any (λ x. bytes_eq x symbol) done ≡ false → list_any (bytes_eq symbol) done ≡ false
fresh_name [] symbol h = refl
fresh_name (x ∷ xs) symbol h =
    let parts = or_parts (bytes_eq x symbol) (list_any (λ y. bytes_eq y symbol) xs) h in
    or_false (bytes_eq symbol x) (list_any (bytes_eq symbol) xs) (same_either_way symbol x ∙ parts.0) (fresh_name xs symbol parts.1)

symbol_step : (f : TraceForm) (done : List (List ℕ)) (symbol : List ℕ) → is_name symbol ≡ true → list_any (bytes_eq symbol) done ≡ false → ¬ (length done ≡ 4096) → with_line (trace f done [] [] []) (sym_words symbol) ≡ Ok (trace f (done ++ symbol ∷ []) [] [] [])
unfolding line_by_word add_symbol
symbol_step f done symbol good fresh few =
    line_again (trace f done [] [] []) line.Sym (symbol ∷ []) refl (omega arith) (λ h. absurd (omega arith)) ∙ rw (last_word_again symbol (name_some symbol good), good, fresh, not_same (length done) 4096 (length done == 4096) refl few) refl

pub symbols_fold : (f : TraceForm) (done rest : List (List ℕ)) → AreNames rest → IsDistinct bytes_eq (done ++ rest) → length (done ++ rest) ≤ 4096 → fold_lines (trace f done [] [] []) (map sym_words rest) ≡ Ok (trace f (done ++ rest) [] [] [])
symbols_fold f done [] names differ few = ap (λ s. Ok (trace f s [] [] [])) (sym (append-nil done))
symbols_fold f done (symbol ∷ rest) names differ few =
    let same : (done ++ symbol ∷ []) ++ rest ≡ done ++ symbol ∷ rest = append_assoc done (symbol ∷ []) rest in
    let long : length (done ++ symbol ∷ rest) ≡ length done + length (symbol ∷ rest) = length-append done (symbol ∷ rest) in
    let D : List (List ℕ) → Type 0 = λ s. IsDistinct bytes_eq s in
    let L : List (List ℕ) → Type 0 = λ s. length s ≤ 4096 in
    let R : List (List ℕ) → Type 0 = λ s. fold_lines (trace f (done ++ symbol ∷ []) [] [] []) (map sym_words rest) ≡ Ok (trace f s [] [] []) in
    let here = symbol_step f done symbol names.0 (fresh_name done symbol (apart_before bytes_eq done symbol rest differ)) (λ e. omega arith) in
    let after = symbols_fold f (done ++ symbol ∷ []) rest names.1 (subst D (sym same) differ) (subst L (sym same) few) in
    fold_step (trace f done [] [] []) (trace f (done ++ symbol ∷ []) [] [] []) (trace f (done ++ symbol ∷ rest) [] [] []) (sym_words symbol) (map sym_words rest) here (subst R same after)

-- ---- Boot tasks

boot_step : (f : TraceForm) (s : List (List ℕ)) (p : List (List SymId)) (done : List (TaskId × Class)) (boot : TaskId × Class) → 0 < length p → IsTask boot.0 → list_any (λ other. other.0.0 == boot.0.0) done ≡ false → with_line (trace f s p done []) (boot_words boot) ≡ Ok (trace f s p (done ++ boot ∷ []) [])
unfolding line_by_word add_boot
boot_step f s p done boot patched task fresh =
    line_again (trace f s p done []) line.Boot (decimal boot.0.0 ∷ class_word boot.1 ∷ []) refl (at_most_either (nat_lt 0 (length done)) 3 _ 3 (omega arith) (at_most_either (nat_lt 0 (length p)) 2 1 3 (omega arith) (omega arith))) (λ h. patched) ∙ rw (boot_line_again boot.0 boot.1 task, task_again boot.0 task, fresh) refl

pub boots_fold : (f : TraceForm) (s : List (List ℕ)) (p : List (List SymId)) (done rest : List (TaskId × Class)) → 0 < length p → AllByRecursion (λ boot. IsTask boot.0) rest → IsDistinct (λ boot other. boot.0.0 == other.0.0) (done ++ rest) → fold_lines (trace f s p done []) (map boot_words rest) ≡ Ok (trace f s p (done ++ rest) [])
boots_fold f s p done [] patched tasks differ = ap (λ b. Ok (trace f s p b [])) (sym (append-nil done))
boots_fold f s p done (boot ∷ rest) patched tasks differ =
    let same : (done ++ boot ∷ []) ++ rest ≡ done ++ boot ∷ rest = append_assoc done (boot ∷ []) rest in
    let D : List (TaskId × Class) → Type 0 = λ b. IsDistinct (λ boot other. boot.0.0 == other.0.0) b in
    let R : List (TaskId × Class) → Type 0 = λ b. fold_lines (trace f s p (done ++ boot ∷ []) []) (map boot_words rest) ≡ Ok (trace f s p b []) in
    let here = boot_step f s p done boot patched tasks.0 (apart_before (λ boot other. boot.0.0 == other.0.0) done boot rest differ) in
    let after = boots_fold f s p (done ++ boot ∷ []) rest patched tasks.1 (subst D (sym same) differ) in
    fold_step (trace f s p done []) (trace f s p (done ++ boot ∷ []) []) (trace f s p (done ++ boot ∷ rest) []) (boot_words boot) (map boot_words rest) here (subst R same after)

-- ---- Events

event_step : (f : TraceForm) (s : List (List ℕ)) (p : List (List SymId)) (b : List (TaskId × Class)) (done : List Event) (e : Event) → 0 < length p → Again s e → has_event f e ≡ true → ¬ (length done ≡ 1000000) → with_line (trace f s p b done) (event_words s e) ≡ Ok (trace f s p b (done ++ e ∷ []))
unfolding line_by_word add_event
event_step f s p b done e patched again told few =
    let l : LineKeyword = line.Event (word_of e) in
    let all : part_reached (trace f s p b done) ≤ 4 =
    at_most_either (nat_lt 0 (length done)) 4 _ 4 (omega arith) (at_most_either (nat_lt 0 (length b)) 3 _ 4 (omega arith) (at_most_either (nat_lt 0 (length p)) 2 1 4 (omega arith) (omega arith)))
    in
    ap (with_line (trace f s p b done)) again.words ∙ line_again (trace f s p b done) l again.given (sym (word_known f e) ∙ told) all (λ h. patched) ∙ rw (again.reads, not_same (length done) 1000000 (length done == 1000000) refl few) refl

pub events_fold : (f : TraceForm) (s : List (List ℕ)) (p : List (List SymId)) (b : List (TaskId × Class)) (done rest : List Event) → 0 < length p → AreNames s → IsDistinct bytes_eq s → AllByRecursion (IsEvent (length s)) rest → AllByRecursion (λ e. has_event f e ≡ true) rest → length (done ++ rest) ≤ 1000000 → fold_lines (trace f s p b done) (map (event_words s) rest) ≡ Ok (trace f s p b (done ++ rest))
events_fold f s p b done [] patched names differ fits told few = ap (λ e. Ok (trace f s p b e)) (sym (append-nil done))
events_fold f s p b done (e ∷ rest) patched names differ fits told few =
    let same : (done ++ e ∷ []) ++ rest ≡ done ++ e ∷ rest = append_assoc done (e ∷ []) rest in
    let long : length (done ++ e ∷ rest) ≡ length done + length (e ∷ rest) = length-append done (e ∷ rest) in
    let L : List Event → Type 0 = λ es. length es ≤ 1000000 in
    let R : List Event → Type 0 = λ es. fold_lines (trace f s p b (done ++ e ∷ [])) (map (event_words s) rest) ≡ Ok (trace f s p b es) in
    let here = event_step f s p b done e patched (event_again s e names differ fits.0) told.0 (λ h. omega arith) in
    let after = events_fold f s p b (done ++ e ∷ []) rest patched names differ fits.1 told.1 (subst L (sym same) few) in
    fold_step (trace f s p b done) (trace f s p b (done ++ e ∷ [])) (trace f s p b (done ++ e ∷ rest)) (event_words s e) (map (event_words s) rest) here (subst R same after)

-- ---- Patches

-- the patches while one of them is written: it is there from its first function on
pub patches_so_far : List (List SymId) → List SymId → List (List SymId)
patches_so_far prefix [] = prefix
patches_so_far prefix (id ∷ ids) = prefix ++ (id ∷ ids) ∷ []

at_end_of : (prefix : List (List SymId)) (had : List SymId) → slice_index_or (prefix ++ had ∷ []) (length prefix) [] ≡ had
at_end_of [] had = refl
at_end_of (p ∷ ps) had = at_end_of ps had

pub prefix_of : (prefix : List (List SymId)) (had : List SymId) → take (length prefix) (patches_so_far prefix had) ≡ prefix
unfolding patches_so_far
prefix_of prefix [] = take_all (length prefix) prefix (omega arith)
prefix_of [] (id ∷ ids) = refl
prefix_of (p ∷ ps) (id ∷ ids) = ap (λ r. p ∷ r) (prefix_of ps (id ∷ ids))

pub more_so_far : (prefix : List (List SymId)) (had : List SymId) (func : SymId) → prefix ++ (had ++ func ∷ []) ∷ [] ≡ patches_so_far prefix (had ++ func ∷ [])
unfolding patches_so_far
more_so_far prefix [] func = refl
more_so_far prefix (id ∷ ids) func = refl

pub stands : (prefix : List (List SymId)) (ids : List SymId) → 0 < length ids → patches_so_far prefix ids ≡ prefix ++ ids ∷ []
unfolding patches_so_far
stands prefix [] h = absurd (omega arith)
stands prefix (id ∷ ids) h = refl

pub none_stands : (prefix : List (List SymId)) → patches_so_far prefix [] ≡ prefix
unfolding patches_so_far
none_stands prefix = refl

pub last_so_far : (prefix : List (List SymId)) (had : List SymId) → slice_index_or (patches_so_far prefix had) (length prefix) [] ≡ had
unfolding patches_so_far
last_so_far prefix [] = get_or_past prefix (length prefix) [] (omega arith)
last_so_far prefix (id ∷ ids) = at_end_of prefix (id ∷ ids)

same_number : (n : ℕ) → (n == n) ≡ true
same_number n = (Decides-eqb n n).1 refl

begun_again : (prefix : List (List SymId)) (had : List SymId) (number : ℕ) → number ≡ length prefix + 1 → number ≤ 16 → begun (patches_so_far prefix had) number ≡ Ok had
unfolding begun patches_so_far
begun_again prefix [] number at few =
    let here : ((number == length prefix + 1) && nat_le number 16) ≡ true = both (number == length prefix + 1) (nat_le number 16) ((Decides-eqb number (length prefix + 1)).1 at) (at_most number 16 few) in
    rw (not_same number 0 (number == 0) refl (λ e. omega arith), not_same number (length prefix) (number == length prefix) refl (λ e. omega arith), here) refl
begun_again prefix (id ∷ ids) number at few =
    let patches : List (List SymId) = prefix ++ (id ∷ ids) ∷ [] in
    let long : length patches ≡ length prefix + 1 = length-append prefix ((id ∷ ids) ∷ []) in
    let here : (number == length patches) ≡ true = (Decides-eqb number (length patches)).1 (omega arith) in
    let place : number - 1 ≡ length prefix = omega arith in
    rw (not_same number 0 (number == 0) refl (λ e. omega arith), here) (ap (λ n. Ok (slice_index_or patches n [])) place ∙ ap (λ h. Ok h) (at_end_of prefix (id ∷ ids)))

-- the numbers of a patch's functions
fault_known : (count : ℕ) (seen had : List SymId) (func : SymId) (rest : List SymId) → first_fault count seen (had ++ func ∷ rest) ≡ None → func.0 < count
fault_known count seen [] func rest h = at_most_false count func.0 (nat_le count func.0) refl (none_if (nat_le count func.0) _ _ h).0
fault_known count seen (id ∷ ids) func rest h =
    let a = none_if (nat_le count id.0) (patch.Unknown id) _ h in
    let b = none_if (list_any (λ s. s.0 == id.0) seen) (patch.Doubled id) _ a.1 in
    fault_known count (seen ++ id ∷ []) ids func rest b.1

fault_fresh : (count : ℕ) (seen had : List SymId) (func : SymId) (rest : List SymId) → first_fault count seen (had ++ func ∷ rest) ≡ None → list_any (λ id. id.0 == func.0) (seen ++ had) ≡ false
fault_fresh count seen [] func rest h =
    let a = none_if (nat_le count func.0) (patch.Unknown func) _ h in
    let b = none_if (list_any (λ s. s.0 == func.0) seen) (patch.Doubled func) _ a.1 in
    ap (list_any (λ id. id.0 == func.0)) (append-nil seen) ∙ b.0
fault_fresh count seen (id ∷ ids) func rest h =
    let a = none_if (nat_le count id.0) (patch.Unknown id) _ h in
    let b = none_if (list_any (λ s. s.0 == id.0) seen) (patch.Doubled id) _ a.1 in
    ap (list_any (λ s. s.0 == func.0)) (sym (append_assoc seen (id ∷ []) ids)) ∙ fault_fresh count (seen ++ id ∷ []) ids func rest b.1

-- a patch without a refusal
pub record Good (count : ℕ) (ids : List SymId) : Type 0 where
  pub some : 0 < length ids
  pub few : length ids ≤ 256
  pub plain : first_fault count [] ids ≡ None

pub good_from : (count : ℕ) (ids : List SymId) → patch_refusal count ids ≡ None → Good count ids
good_from count [] h = absurd (cc h)
good_from count (id ∷ ids) h =
    let a = none_if (length (id ∷ ids) == 0) patch.Empty _ h in
    let b = none_if (nat_lt 256 (length (id ∷ ids))) patch.TooMany _ a.1 in
    record { some = omega arith; few = ltb-false 256 (length (id ∷ ids)) b.0; plain = b.1 }

few_enough : (f : TraceForm) (n : ℕ) → n ≤ most_patches f → n ≤ 16
few_enough Single n h = omega arith
few_enough Stacked n h = h
few_enough WithResched n h = h

module _ (f : TraceForm) (s : List (List ℕ)) (names : AreNames s) (differ : IsDistinct bytes_eq s) (prefix : List (List SymId)) (room : length prefix + 1 ≤ most_patches f) where
  sixteen : length prefix + 1 ≤ 16
  sixteen = few_enough f (length prefix + 1) room

  function_step : (had : List SymId) (func : SymId) → func.0 < length s → list_any (λ id. id.0 == func.0) had ≡ false → ¬ (length had ≡ 256) → with_line (trace f s (patches_so_far prefix had) [] []) (patch_words f (length prefix + 1) (name s func)) ≡ Ok (trace f s (patches_so_far prefix (had ++ func ∷ [])) [] [])
  unfolding line_by_word add_function grown
  function_step had func known fresh few =
      let t : TraceValue = trace f s (patches_so_far prefix had) [] [] in
      let early : part_reached t ≤ 2 = at_most_either (nat_lt 0 (length (patches_so_far prefix had))) 2 1 2 (omega arith) (omega arith) in
      let some : 0 < length (name s func) = name_at_some s func names known in
      let place : length prefix + 1 - 1 ≡ length prefix = omega arith in
      ap (with_line t) (patch_given_words f (length prefix + 1) (name s func))
      ∙ line_again t line.Patch (patch_given f (length prefix + 1) (name s func)) refl early (λ h. absurd (omega arith))
      ∙ rw (patch_line_again f (length prefix + 1) (name s func) (omega arith) room some, symbol_again s func differ known, begun_again prefix had (length prefix + 1) refl sixteen, fresh, not_same (length had) 256 (length had == 256) refl few, place, prefix_of prefix had, more_so_far prefix had func) refl

  functions_fold : (had rest : List SymId) → Good (length s) (had ++ rest) → fold_lines (trace f s (patches_so_far prefix had) [] []) (map (λ func. patch_words f (length prefix + 1) (name s func)) rest) ≡ Ok (trace f s (patches_so_far prefix (had ++ rest)) [] [])
  functions_fold had [] good = ap (λ h. Ok (trace f s (patches_so_far prefix h) [] [])) (sym (append-nil had))
  functions_fold had (func ∷ rest) good =
      let same : (had ++ func ∷ []) ++ rest ≡ had ++ func ∷ rest = append_assoc had (func ∷ []) rest in
      let long : length (had ++ func ∷ rest) ≡ length had + length (func ∷ rest) = length-append had (func ∷ rest) in
      let most : length (had ++ func ∷ rest) ≤ 256 = good.few in
      let G : List SymId → Type 0 = λ ids. Good (length s) ids in
      let words : SymId → List (List ℕ) = λ func. patch_words f (length prefix + 1) (name s func) in
      let R : List SymId → Type 0 = λ ids. fold_lines (trace f s (patches_so_far prefix (had ++ func ∷ [])) [] []) (map words rest) ≡ Ok (trace f s (patches_so_far prefix ids) [] []) in
      let here = function_step had func (fault_known (length s) [] had func rest good.plain) (fault_fresh (length s) [] had func rest good.plain) (λ e. omega arith) in
      let after = functions_fold (had ++ func ∷ []) rest (subst G (sym same) good) in
      fold_step (trace f s (patches_so_far prefix had) [] []) (trace f s (patches_so_far prefix (had ++ func ∷ [])) [] []) (trace f s (patches_so_far prefix (had ++ func ∷ rest)) [] []) (words func) (map words rest) here (subst R same after)

  pub patch_fold : (ids : List SymId) → Good (length s) ids → fold_lines (trace f s prefix [] []) (map (λ func. patch_words f (length prefix + 1) (name s func)) ids) ≡ Ok (trace f s (prefix ++ ids ∷ []) [] [])
  patch_fold ids good =
      let lines : List (List (List ℕ)) = map (λ func. patch_words f (length prefix + 1) (name s func)) ids in
      ap (λ p. fold_lines (trace f s p [] []) lines) (sym (none_stands prefix)) ∙ functions_fold [] ids good ∙ ap (λ p. Ok (trace f s p [] [])) (stands prefix ids good.some)

pub patches_fold : (f : TraceForm) (s : List (List ℕ)) → AreNames s → IsDistinct bytes_eq s → (prefix rest : List (List SymId)) → length (prefix ++ rest) ≤ most_patches f → AllByRecursion (λ patch. patch_refusal (length s) patch ≡ None) rest → fold_lines (trace f s prefix [] []) (patch_lines f s (length prefix + 1) rest) ≡ Ok (trace f s (prefix ++ rest) [] [])
unfolding patch_lines
patches_fold f s names differ prefix [] few good = ap (λ p. Ok (trace f s p [] [])) (sym (append-nil prefix))
patches_fold f s names differ prefix (ids ∷ rest) few good =
    let same : (prefix ++ ids ∷ []) ++ rest ≡ prefix ++ ids ∷ rest = append_assoc prefix (ids ∷ []) rest in
    let long : length (prefix ++ ids ∷ rest) ≡ length prefix + length (ids ∷ rest) = length-append prefix (ids ∷ rest) in
    let longer : length (prefix ++ ids ∷ []) ≡ length prefix + 1 = length-append prefix (ids ∷ []) in
    let L : List (List SymId) → Type 0 = λ p. length p ≤ most_patches f in
    let here = patch_fold f s names differ prefix (omega arith) ids (good_from (length s) ids good.0) in
    let after = patches_fold f s names differ (prefix ++ ids ∷ []) rest (subst L (sym same) few) good.1 in
    fold_append (trace f s prefix [] []) (trace f s (prefix ++ ids ∷ []) [] []) (map (λ func. patch_words f (length prefix + 1) (name s func)) ids) (patch_lines f s (length prefix + 1 + 1) rest) here
    ∙ ap (λ n. fold_lines (trace f s (prefix ++ ids ∷ []) [] []) (patch_lines f s (n + 1) rest)) (sym longer)
    ∙ after ∙ ap (λ p. Ok (trace f s p [] [])) same
