-- A line that is read adds its words to the text, and keeps the limits.
use Rattle.std.proofs.Common.{◌≡◌, ◌<◌, ◌≤◌, ◌+◌, ◌-◌, ℕ, Bool, true, false, not, List, [], ◌∷◌, ◌++◌, length, map, take, None, Ok, cond, refl, sym, ap, ◌∙◌, arith, subst, append_assoc, inl, inr, ◌⊎◌}
use Rattle.std.specs.Prelude.{nat_lt, ◌==◌, ◌&&◌, ◌||◌, decimal}
use Rattle.std.specs.List.{AllByRecursion, IsDistinct, list_any}
use Rattle.std.specs.Str.{bytes_eq}
use Rattle.std.proofs.lemmas.Bool.{ltb-true, ltb-false}
use Rattle.std.proofs.lemmas.List.{append-nil, length-append, map-append, length-take-le, take_all, get_or_past}
use Rattle.lp_symbols.specs.declared.sym_id.SymId.{SymId}
use Rattle.lp_symbols.specs.Names.{is_name}
use Rattle.lp_stack.specs.declared.view.Class.{Class}
use Rattle.lp_patch.specs.Patches.{patch_refusal}
use Rattle.lp_definitions.specs.declared.event.Event.{Event}
use Rattle.lp_text.specs.declared.form.TraceForm.{TraceForm}
use Rattle.lp_text.specs.declared.form.TraceForm.TheVariants.{Single, Stacked, WithResched}
use Rattle.lp_text.specs.declared.keyword.LineKeyword.{LineKeyword}
use Rattle.lp_text.specs.declared.keyword.LineKeyword.TheVariants as line
use Rattle.lp_text.specs.declared.fault.Cause.TheVariants as cause
use Rattle.lp_text.specs.Words.{line_word, has_word, class_word, line_word_of}
use Rattle.lp_text.specs.Traces.{TraceValue, AreNames, IsTask, IsEvent, has_event, most_patches, name, sym_words, patch_words, boot_words, event_words, patch_lines, lines_after_header}
use Rattle.lp_text.specs.Reading.{needs, last_word, event_line, patch_line, boot_line, add_symbol, grown, begun, add_function, add_boot, add_event, symbol_of, task_of, part_of, part_reached, first_word, line_by_word, with_line}
use Rattle.lp_text.proofs.Choices.{guard_ok, bind_ok, ok_is}
use Rattle.lp_text.proofs.Parsers.{Place, begun_ok}
use Rattle.lp_text.proofs.Pushes.{differ, empty_from, all_push, all_take, all_at, or_parts, distinct_push, name_fresh, last_back, refusal_push}
use Rattle.lp_text.proofs.Again.{word_is, word_known}
use Rattle.lp_text.proofs.Spelled.{needs_ok, line_word_spelled, last_word_spelled, event_line_spelled, patch_line_spelled, boot_line_spelled, symbol_spelled, task_spelled}

-- the limits of a trace of which lines may still come
pub record SoFar (trace : TraceValue) : Type 0 where
  pub names : AreNames trace.symbols
  pub names_differ : IsDistinct bytes_eq trace.symbols
  pub symbols_few : length trace.symbols ≤ 4096
  pub patches : AllByRecursion (λ patch. patch_refusal (length trace.symbols) patch ≡ None) trace.patches
  pub patches_few : length trace.patches ≤ most_patches trace.form
  pub boots : AllByRecursion (λ boot. IsTask boot.0) trace.boots
  pub boots_differ : IsDistinct (λ boot other. boot.0.0 == other.0.0) trace.boots
  pub events : AllByRecursion (IsEvent (length trace.symbols)) trace.events
  pub events_told : AllByRecursion (λ event. has_event trace.form event ≡ true) trace.events
  pub events_few : length trace.events ≤ 1000000

-- a trace after one line more
pub record IsNext (trace : TraceValue) (words : List (List ℕ)) (next : TraceValue) : Type 0 where
  pub form : next.form ≡ trace.form
  pub limits : SoFar next
  pub lines : lines_after_header next ≡ lines_after_header trace ++ words ∷ []

-- ---- Parts that have not begun

reached_events : (b : Bool) (x p : ℕ) → cond b 4 x ≤ p → p < 4 → b ≡ false
reached_events true x p h below = absurd (omega arith)
reached_events false x p h below = refl

reached_boots : (a b : Bool) (x p : ℕ) → cond a 4 (cond b 3 x) ≤ p → p < 3 → b ≡ false
reached_boots true b x p h below = absurd (omega arith)
reached_boots false true x p h below = absurd (omega arith)
reached_boots false false x p h below = refl

reached_patches : (a b c : Bool) (x p : ℕ) → cond a 4 (cond b 3 (cond c 2 x)) ≤ p → p < 2 → c ≡ false
reached_patches true b c x p h below = absurd (omega arith)
reached_patches false true c x p h below = absurd (omega arith)
reached_patches false false true x p h below = absurd (omega arith)
reached_patches false false false x p h below = refl

module _ (trace : TraceValue) (p : ℕ) (h : part_reached trace ≤ p) where
  no_events : p < 4 → trace.events ≡ []
  no_events below = empty_from trace.events (reached_events (nat_lt 0 (length trace.events)) _ p h below)

  no_boots : p < 3 → trace.boots ≡ []
  no_boots below = empty_from trace.boots (reached_boots (nat_lt 0 (length trace.events)) (nat_lt 0 (length trace.boots)) _ p h below)

  no_patches : p < 2 → trace.patches ≡ []
  no_patches below = empty_from trace.patches (reached_patches (nat_lt 0 (length trace.events)) (nat_lt 0 (length trace.boots)) (nat_lt 0 (length trace.patches)) _ p h below)

-- ---- Lines of patches

pub patch_lines-push : (form : TraceForm) (symbols : List (List ℕ)) (number : ℕ) (patches : List (List SymId)) (patch : List SymId) → patch_lines form symbols number (patches ++ patch ∷ []) ≡ patch_lines form symbols number patches ++ map (λ func. patch_words form (number + length patches) (name symbols func)) patch
unfolding patch_lines
patch_lines-push form symbols number [] patch =
    let same : number + 0 ≡ number = omega arith in
    append-nil _ ∙ ap (λ n. map (λ func. patch_words form n (name symbols func)) patch) (sym same)
patch_lines-push form symbols number (p ∷ ps) patch =
    let same : number + 1 + length ps ≡ number + length (p ∷ ps) = omega arith in
    rw (patch_lines-push form symbols (number + 1) ps patch, same, append_assoc) refl

-- ---- A function more

-- what a patch had, and what it has now
pub record Grows (patches : List (List SymId)) (number : ℕ) (func : SymId) (patch : List SymId) : Type 0 where
  pub had : List SymId
  pub place : Place patches number had
  pub fresh : list_any (λ id. id.0 == func.0) had ≡ false
  pub few : ¬ (length had ≡ 256)
  pub now : had ++ func ∷ [] ≡ patch

pub grown_parts : (patches : List (List SymId)) (number : ℕ) (func : SymId) (patch : List SymId) → grown patches number func ≡ Ok patch → Grows patches number func patch
unfolding grown
grown_parts patches number func patch h =
    let a = bind_ok (begun patches number) _ patch h in
    let b = guard_ok (list_any (λ id. id.0 == func.0) a.0) cause.Patch _ patch a.2 in
    let d = guard_ok (length a.0 == 256) cause.Many _ patch b.1 in
    record { had = a.0; place = begun_ok patches number a.0 a.1; fresh = b.0; few = differ (length a.0) 256 d.0; now = ok_is d.1 }

module _ (patches : List (List SymId)) (number : ℕ) (had : List SymId) (place : Place patches number had) where
  -- the patch is the last one, or one more
  abbrev Split : Type 0
  Split = (take (number - 1) patches ++ had ∷ [] ≡ patches) ⊎ ((take (number - 1) patches ≡ patches) × (had ≡ []))

  split_at : (b : Bool) → nat_lt (length patches) number ≡ b → Split
  split_at true e =
      let above : length patches < number = ltb-true (length patches) number e in
      let some : 1 ≤ number = place.some in
      inr (take_all (number - 1) patches (omega arith), place.had_is ∙ get_or_past patches (number - 1) [] (omega arith))
  split_at false e =
      let below : number ≤ length patches = ltb-false (length patches) number e in
      let last : length patches ≤ number = place.last in
      let some : 1 ≤ number = place.some in
      let at : number - 1 + 1 ≡ length patches = omega arith in
      inl (ap (λ h. take (number - 1) patches ++ h ∷ []) place.had_is ∙ last_back patches (number - 1) [] at)

  split : Split
  split = split_at (nat_lt (length patches) number) refl

  prefix_length : length (take (number - 1) patches) + 1 ≡ number
  prefix_length =
      let some : 1 ≤ number = place.some in
      let more : number ≤ length patches + 1 = place.more in
      omega (arith, length-take-le (number - 1) patches (omega arith))

  module _ (form : TraceForm) (symbols : List (List ℕ)) (func : SymId) where
    words_of : SymId → List (List ℕ)
    words_of f = patch_words form number (name symbols f)

    prefix : List (List SymId)
    prefix = take (number - 1) patches

    -- the lines that the patch had
    lines_had : patch_lines form symbols 1 (take (number - 1) patches) ++ map (λ f. patch_words form number (name symbols f)) had ≡ patch_lines form symbols 1 patches
    lines_had =
        let at : 1 + length (take (number - 1) patches) ≡ number = omega (arith, prefix_length) in
        elim split as (λ _. patch_lines form symbols 1 (take (number - 1) patches) ++ map (λ f. patch_words form number (name symbols f)) had ≡ patch_lines form symbols 1 patches) [
          | inl last ↦ ap (λ n. patch_lines form symbols 1 (take (number - 1) patches) ++ map (λ f. patch_words form n (name symbols f)) had) (sym at) ∙ sym (patch_lines-push form symbols 1 (take (number - 1) patches) had) ∙ ap (patch_lines form symbols 1) last
          | inr more ↦ rw (more.0, more.1) (append-nil (patch_lines form symbols 1 patches))
        ]

    pub lines_now : patch_lines form symbols 1 (take (number - 1) patches ++ (had ++ func ∷ []) ∷ []) ≡ patch_lines form symbols 1 patches ++ patch_words form number (name symbols func) ∷ []
    lines_now =
        let at : 1 + length (take (number - 1) patches) ≡ number = omega (arith, prefix_length) in
        rw (patch_lines-push, at, map-append, ← append_assoc, lines_had) refl

  pub had_good : (count : ℕ) → AllByRecursion (λ patch. patch_refusal count patch ≡ None) patches → 0 < length had → patch_refusal count had ≡ None
  had_good count all some =
      let first : 1 ≤ number = place.some in
      let P : List SymId → Type 0 = λ patch. patch_refusal count patch ≡ None in
      elim split as (λ _. P had) [
        | inl last ↦
            let long : length (take (number - 1) patches ++ had ∷ []) ≡ length patches = ap length last in
            subst P (sym place.had_is) (all_at P patches (number - 1) [] all (omega (arith, length-append (take (number - 1) patches) (had ∷ []), prefix_length)))
        | inr more ↦ absurd (omega (arith, ap length more.1))
      ]

pub most_sixteen : (form : TraceForm) → most_patches form ≤ 16
most_sixteen Single = omega arith
most_sixteen Stacked = omega arith
most_sixteen WithResched = omega arith

yes_from : (b : Bool) → not b ≡ false → b ≡ true
yes_from true h = refl
yes_from false h = absurd (cc h)

-- ---- One line

after_patches : {A : Type 0} (symbols patches more boots events : List A) (line : A) → boots ≡ [] → events ≡ [] → more ≡ patches ++ line ∷ [] → symbols ++ more ++ boots ++ events ≡ (symbols ++ patches ++ boots ++ events) ++ line ∷ []
after_patches symbols patches more boots events line bs es h = rw (bs, es, h) (simp (append-nil, append_assoc))

after_boots : {A : Type 0} (before boots more events : List A) (line : A) → events ≡ [] → more ≡ boots ++ line ∷ [] → before ++ more ++ events ≡ (before ++ boots ++ events) ++ line ∷ []
after_boots before boots more events line es h = rw (es, h) (simp (append-nil, append_assoc))

module _ (t : TraceValue) (s : SoFar t) (u : TraceValue) where
  is_next_symbol : (symbol : List ℕ) → part_reached t ≤ 1 → add_symbol t symbol ≡ Ok u → IsNext t (sym_words symbol) u
  unfolding add_symbol lines_after_header patch_lines
  is_next_symbol symbol early h =
      let a = guard_ok (not (is_name symbol)) cause.Name _ u h in
      let b = guard_ok (list_any (bytes_eq symbol) t.symbols) cause.Doubled _ u a.1 in
      let d = guard_ok (length t.symbols == 4096) cause.Many _ u b.1 in
      let P : TraceValue → Type 0 = λ v. IsNext t (sym_words symbol) v in
      let ps : t.patches ≡ [] = no_patches t 1 early (omega arith) in
      let bs : t.boots ≡ [] = no_boots t 1 early (omega arith) in
      let es : t.events ≡ [] = no_events t 1 early (omega arith) in
      let most : length t.symbols ≤ 4096 = s.symbols_few in
      let room : ¬ (length t.symbols ≡ 4096) = differ (length t.symbols) 4096 d.0 in
      let long : length (t.symbols ++ symbol ∷ []) ≡ length t.symbols + 1 = length-append t.symbols (symbol ∷ []) in
      subst P (ok_is d.1) (record {
        form = refl;
        limits = record {
          names = all_push (λ n. is_name n ≡ true) t.symbols symbol s.names (yes_from (is_name symbol) a.0);
          names_differ = distinct_push bytes_eq t.symbols symbol s.names_differ (name_fresh t.symbols symbol b.0);
          symbols_few = omega arith;
          patches = rw ps tt;
          patches_few = s.patches_few;
          boots = s.boots;
          boots_differ = s.boots_differ;
          events = rw es tt;
          events_told = rw es tt;
          events_few = s.events_few;
        };
        lines = rw (ps, bs, es, map-append) (simp append-nil);
      })

  is_next_function : (x : ℕ × List ℕ) → part_reached t ≤ 2 → (x.0 ≤ 16 → x.0 ≤ most_patches t.form) → add_function t x ≡ Ok u → IsNext t (patch_words t.form x.0 x.1) u
  unfolding add_function lines_after_header
  is_next_function x early few h =
      let a = bind_ok (symbol_of t.symbols x.1) _ u h in
      let b = bind_ok (grown t.patches x.0 a.0) _ u a.2 in
      let func = symbol_spelled t.symbols x.1 a.0 a.1 in
      let g = grown_parts t.patches x.0 a.0 b.0 b.1 in
      let P : TraceValue → Type 0 = λ v. IsNext t (patch_words t.form x.0 x.1) v in
      let bs : t.boots ≡ [] = no_boots t 2 early (omega arith) in
      let es : t.events ≡ [] = no_events t 2 early (omega arith) in
      let Q : List SymId → Type 0 = λ patch. patch_refusal (length t.symbols) patch ≡ None in
      let had = g.had in
      let good : Q (had ++ a.0 ∷ []) = refusal_push (length t.symbols) had a.0 (had_good t.patches x.0 had g.place (length t.symbols) s.patches) func.1 g.fresh g.few in
      let most : length t.patches ≤ most_patches t.form = s.patches_few in
      let sixteen : x.0 ≤ 16 = g.place.few (omega (arith, most_sixteen t.form)) in
      let limit : x.0 ≤ most_patches t.form = few sixteen in
      let prefix : List (List SymId) = take (x.0 - 1) t.patches in
      let count : length prefix + 1 ≡ x.0 = prefix_length t.patches x.0 had g.place in
      let long : length (prefix ++ b.0 ∷ []) ≡ length prefix + 1 = length-append prefix (b.0 ∷ []) in
      let more : patch_lines t.form t.symbols 1 (prefix ++ b.0 ∷ []) ≡ patch_lines t.form t.symbols 1 t.patches ++ patch_words t.form x.0 x.1 ∷ [] =
      ap (λ patch. patch_lines t.form t.symbols 1 (prefix ++ patch ∷ [])) (sym g.now) ∙ lines_now t.patches x.0 had g.place t.form t.symbols a.0 ∙ ap (λ w. patch_lines t.form t.symbols 1 t.patches ++ patch_words t.form x.0 w ∷ []) (sym func.0)
      in
      subst P (ok_is b.2) (record {
        form = refl;
        limits = record {
          names = s.names;
          names_differ = s.names_differ;
          symbols_few = s.symbols_few;
          patches = all_push Q prefix b.0 (all_take Q (x.0 - 1) t.patches s.patches) (subst Q g.now good);
          patches_few = omega arith;
          boots = s.boots;
          boots_differ = s.boots_differ;
          events = s.events;
          events_told = s.events_told;
          events_few = s.events_few;
        };
        lines = after_patches (map sym_words t.symbols) (patch_lines t.form t.symbols 1 t.patches) (patch_lines t.form t.symbols 1 (prefix ++ b.0 ∷ [])) (map boot_words t.boots) (map (event_words t.symbols) t.events) (patch_words t.form x.0 x.1) (ap (map boot_words) bs) (ap (map (event_words t.symbols)) es) more;
      })

  is_next_boot : (x : ℕ × Class) → part_reached t ≤ 3 → add_boot t x ≡ Ok u → IsNext t (line_word line.Boot ∷ decimal x.0 ∷ class_word x.1 ∷ []) u
  unfolding add_boot lines_after_header
  is_next_boot x early h =
      let a = bind_ok (task_of x.0) _ u h in
      let b = guard_ok (list_any (λ boot. boot.0.0 == a.0.0) t.boots) cause.Task _ u a.2 in
      let task = task_spelled x.0 a.0 a.1 in
      let es : t.events ≡ [] = no_events t 3 early (omega arith) in
      let more : map boot_words (t.boots ++ (a.0, x.1) ∷ []) ≡ map boot_words t.boots ++ (line_word line.Boot ∷ decimal x.0 ∷ class_word x.1 ∷ []) ∷ [] =
      map-append boot_words t.boots ((a.0, x.1) ∷ []) ∙ ap (λ n. map boot_words t.boots ++ (line_word line.Boot ∷ decimal n ∷ class_word x.1 ∷ []) ∷ []) (sym task.0)
      in
      let P : TraceValue → Type 0 = λ v. IsNext t (line_word line.Boot ∷ decimal x.0 ∷ class_word x.1 ∷ []) v in
      subst P (ok_is b.1) (record {
        form = refl;
        limits = record {
          names = s.names;
          names_differ = s.names_differ;
          symbols_few = s.symbols_few;
          patches = s.patches;
          patches_few = s.patches_few;
          boots = all_push (λ boot. IsTask boot.0) t.boots (a.0, x.1) s.boots task.1;
          boots_differ = distinct_push (λ boot other. boot.0.0 == other.0.0) t.boots (a.0, x.1) s.boots_differ b.0;
          events = s.events;
          events_told = s.events_told;
          events_few = s.events_few;
        };
        lines = after_boots (map sym_words t.symbols ++ patch_lines t.form t.symbols 1 t.patches) (map boot_words t.boots) (map boot_words (t.boots ++ (a.0, x.1) ∷ [])) (map (event_words t.symbols) t.events) (line_word line.Boot ∷ decimal x.0 ∷ class_word x.1 ∷ []) (ap (map (event_words t.symbols)) es) more;
      })

  is_next_event : (e : Event) → IsEvent (length t.symbols) e → has_event t.form e ≡ true → add_event t e ≡ Ok u → IsNext t (event_words t.symbols e) u
  unfolding add_event lines_after_header
  is_next_event e fits told h =
      let a = guard_ok (length t.events == 1000000) cause.Many _ u h in
      let P : TraceValue → Type 0 = λ v. IsNext t (event_words t.symbols e) v in
      let most : length t.events ≤ 1000000 = s.events_few in
      let room : ¬ (length t.events ≡ 1000000) = differ (length t.events) 1000000 a.0 in
      let long : length (t.events ++ e ∷ []) ≡ length t.events + 1 = length-append t.events (e ∷ []) in
      subst P (ok_is a.1) (record {
        form = refl;
        limits = record {
          names = s.names;
          names_differ = s.names_differ;
          symbols_few = s.symbols_few;
          patches = s.patches;
          patches_few = s.patches_few;
          boots = s.boots;
          boots_differ = s.boots_differ;
          events = all_push (IsEvent (length t.symbols)) t.events e s.events fits;
          events_told = all_push (λ event. has_event t.form event ≡ true) t.events e s.events_told told;
          events_few = omega arith;
        };
        lines = rw map-append (simp append_assoc);
      })

-- ---- By the first word

-- a first word that may begin this line
pub record MayBegin (t : TraceValue) (word : List ℕ) (first : LineKeyword) : Type 0 where
  pub spelled : word ≡ line_word first
  pub known : has_word t.form first ≡ true
  pub early : part_reached t ≤ part_of first

pub first_word_spelled : (t : TraceValue) (word : List ℕ) (first : LineKeyword) → first_word t word ≡ Ok first → MayBegin t word first
unfolding first_word
first_word_spelled t word first h =
    let a = bind_ok (needs cause.Word (line_word_of word)) _ first h in
    let b = guard_ok (not (has_word t.form a.0) || nat_lt (part_of a.0) (part_reached t)) cause.Word _ first a.2 in
    let both = or_parts (not (has_word t.form a.0)) (nat_lt (part_of a.0) (part_reached t)) b.0 in
    let d = guard_ok (nat_lt 2 (part_of a.0) && length t.patches == 0) cause.Patch _ first b.1 in
    let P : LineKeyword → Type 0 = λ l. MayBegin t word l in
    subst P (ok_is d.1) (record { spelled = line_word_spelled word a.0 (needs_ok cause.Word (line_word_of word) a.0 a.1); known = yes_from (has_word t.form a.0) both.0; early = ltb-false (part_of a.0) (part_reached t) both.1 })

-- the first text's lines leave the patch's number out: it is 1
number_few : (form : TraceForm) (given : List (List ℕ)) (x : ℕ × List ℕ) → patch_line form given ≡ Ok x → x.0 ≤ 16 → x.0 ≤ most_patches form
unfolding patch_line
number_few Single given x h few =
    let a = bind_ok (last_word given) _ x h in
    let one : 1 ≡ x.0 = ap (λ y. y.0) (ok_is a.2) in
    omega arith
number_few Stacked given x h few = few
number_few WithResched given x h few = few

module _ (t : TraceValue) (s : SoFar t) (u : TraceValue) where
  by_word : (first : LineKeyword) (given : List (List ℕ)) → has_word t.form first ≡ true → part_reached t ≤ part_of first → line_by_word t first given ≡ Ok u → IsNext t (line_word first ∷ given) u
  unfolding line_by_word
  by_word line.Sym given known early h =
      let a = bind_ok (last_word given) _ u h in
      let P : List (List ℕ) → Type 0 = λ g. IsNext t (line_word line.Sym ∷ g) u in
      subst P (sym (last_word_spelled given a.0 a.1)) (is_next_symbol t s u a.0 early a.2)
  by_word line.Patch given known early h =
      let a = bind_ok (patch_line t.form given) _ u h in
      let P : List (List ℕ) → Type 0 = λ ws. IsNext t ws u in
      subst P (sym (patch_line_spelled t.form given a.0 a.1)) (is_next_function t s u a.0 early (number_few t.form given a.0 a.1) a.2)
  by_word line.Boot given known early h =
      let a = bind_ok (boot_line given) _ u h in
      let P : List (List ℕ) → Type 0 = λ g. IsNext t (line_word line.Boot ∷ g) u in
      subst P (sym (boot_line_spelled given a.0 a.1)) (is_next_boot t s u a.0 early a.2)
  by_word (line.Event word) given known early h =
      let a = bind_ok (event_line t.symbols word given) _ u h in
      let b = event_line_spelled t.symbols word given a.0 a.1 in
      let P : List (List ℕ) → Type 0 = λ ws. IsNext t ws u in
      subst P (sym b.0) (is_next_event t s u a.0 b.1 (word_known t.form a.0 ∙ (ap (λ w. has_word t.form (line.Event w)) (sym (word_is t.symbols word given a.0 b.0)) ∙ known)) a.2)

  pub is_next : (ws : List (List ℕ)) → with_line t ws ≡ Ok u → IsNext t ws u
  unfolding with_line
  is_next [] h = absurd (cc h)
  is_next (word ∷ given) h =
      let a = bind_ok (first_word t word) _ u h in
      let b = first_word_spelled t word a.0 a.1 in
      let P : List ℕ → Type 0 = λ w. IsNext t (w ∷ given) u in
      subst P (sym b.spelled) (by_word a.0 given b.known b.early a.2)
