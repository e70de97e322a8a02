-- A trace is made of its parts: symbols, patches, boot tasks and events.
use Rattle.std.proofs.Common.{◌≡◌, ◌≤◌, ◌+◌, ℕ, List, [], ◌∷◌, ◌++◌, length, map, None, Result, Ok, refl, sym, ap, ◌∙◌, arith, subst, append_assoc}
use Rattle.std.specs.Prelude.{nat_lt}
use Rattle.std.specs.List.{AllByRecursion, flat_map}
use Rattle.std.proofs.lemmas.List.{length-append}
use Rattle.std.proofs.lemmas.Grind.{flat_map-append}
use Rattle.lp_symbols.specs.declared.sym_id.SymId.{SymId}
use Rattle.lp_patch.specs.Patches.{patch_refusal}
use Rattle.lp_text.specs.declared.form.TraceForm.{TraceForm}
use Rattle.lp_text.specs.declared.of.OfFault.{OfFault}
use Rattle.lp_text.specs.Words.{header, line_of}
use Rattle.lp_text.specs.Traces.{TraceValue, IsTrace, boot_words, event_words, lines_after_header, patch_lines, sym_words, text_of}
use Rattle.lp_text.specs.Reading.{empty, with_line}
use Rattle.lp_text.specs.Build.{asked_patch, asked_patches, spelled, spelling_from, spelling, IsOfFault, GivesPart}
use Rattle.lp_text.specs.inside.Builders.{IsBuilt}
use Rattle.lp_text.proofs.Choices.{bind_ok, ok_is}
use Rattle.lp_text.proofs.Pushes.{not_less}
use Rattle.lp_text.proofs.Steps.{SoFar, is_next}
use Rattle.lp_text.proofs.Sound.{empty_limits}
use Rattle.lp_text.proofs.Folds.{fold_lines}
use Rattle.lp_text.proofs.Complete.{all_fold}
use Rattle.lp_text.proofs.Builders.{Grown, grows, text_length, built_append, built_trace}
use Rattle.lp_text.proofs.Goes.{fault_stops}

first_place : (form : TraceForm) (place size : ℕ) → IsBuilt (empty form) place size → place ≡ 1
unfolding lines_after_header patch_lines
first_place form place size built = built.place_is

module _ (parts : TraceValue) where
  -- the lines of the parts of each kind
  abbrev symbols_asked : List (List (List ℕ))
  symbols_asked = map sym_words parts.symbols

  abbrev patches_asked : TraceForm → List (List (List ℕ))
  patches_asked form = patch_lines form parts.symbols 1 (asked_patches (length parts.symbols) parts.patches)

  abbrev boots_asked : List (List (List ℕ))
  boots_asked = map boot_words parts.boots

  abbrev events_asked : List (List (List ℕ))
  events_asked = map (event_words parts.symbols) parts.events

  abbrev all_asked : List (List (List ℕ))
  all_asked = symbols_asked ++ (patches_asked parts.form ++ (boots_asked ++ events_asked))

  spelling_all : spelling parts ≡ spelling_from 1 (empty parts.form) all_asked
  unfolding spelling lines_after_header
  spelling_all =
      ap (spelling_from 1 (empty parts.form)) (append_assoc (symbols_asked ++ patches_asked parts.form) boots_asked events_asked ∙ append_assoc symbols_asked (patches_asked parts.form) (boots_asked ++ events_asked))

  abbrev Says : OfFault → Result TraceValue ℕ → Type 0
  Says e r = IsOfFault e r

  -- after the first line
  module _ (t0 : TraceValue) (p0 s0 : ℕ) (first : t0 ≡ empty parts.form) (built0 : IsBuilt t0 p0 s0) where
    left0 : spelling parts ≡ spelling_from p0 t0 all_asked
    left0 =
        let P : TraceValue → Type 0 = λ t. IsBuilt t p0 s0 in
        let one : p0 ≡ 1 = first_place parts.form p0 s0 (subst P first built0) in
        spelling_all ∙ ap (λ t. spelling_from 1 t all_asked) (sym first) ∙ ap (λ n. spelling_from n t0 all_asked) (sym one)

    pub symbols_err : (e : OfFault) → IsOfFault e (spelling_from p0 t0 symbols_asked) → IsOfFault e (spelling parts)
    symbols_err e h = let P : Result TraceValue ℕ → Type 0 = λ r. IsOfFault e r in subst P (sym left0) (fault_stops e p0 t0 symbols_asked _ h)

    -- after the symbols
    module _ (t1 : TraceValue) (p1 s1 : ℕ) (symbols : spelling_from p0 t0 symbols_asked ≡ Ok t1) (built1 : IsBuilt t1 p1 s1) (added1 : t1 ≡ record t0 { symbols = parts.symbols }) where
      form1 : t1.form ≡ parts.form
      form1 = ap (λ t. t.form) added1 ∙ ap (λ t. t.form) first

      left1 : spelling parts ≡ spelling_from p1 t1 (patches_asked t1.form ++ (boots_asked ++ events_asked))
      left1 = left0 ∙ built_append t0 p0 s0 built0 t1 p1 s1 symbols_asked _ built1 symbols ∙ ap (λ f. spelling_from p1 t1 (patches_asked f ++ (boots_asked ++ events_asked))) (sym form1)

      pub patches_err : (e : OfFault) → IsOfFault e (spelling_from p1 t1 (patches_asked t1.form)) → IsOfFault e (spelling parts)
      patches_err e h = let P : Result TraceValue ℕ → Type 0 = λ r. IsOfFault e r in subst P (sym left1) (fault_stops e p1 t1 (patches_asked t1.form) _ h)

      -- after the patches
      module _ (t2 : TraceValue) (p2 s2 : ℕ) (patches : spelling_from p1 t1 (patches_asked t1.form) ≡ Ok t2) (built2 : IsBuilt t2 p2 s2) (added2 : t2 ≡ record t1 { patches = parts.patches }) where
        left2 : spelling parts ≡ spelling_from p2 t2 (boots_asked ++ events_asked)
        left2 = left1 ∙ built_append t1 p1 s1 built1 t2 p2 s2 (patches_asked t1.form) _ built2 patches

        pub boots_err : (e : OfFault) → IsOfFault e (spelling_from p2 t2 boots_asked) → IsOfFault e (spelling parts)
        boots_err e h = let P : Result TraceValue ℕ → Type 0 = λ r. IsOfFault e r in subst P (sym left2) (fault_stops e p2 t2 boots_asked _ h)

        -- after the boot tasks
        module _ (t3 : TraceValue) (p3 s3 : ℕ) (boots : spelling_from p2 t2 boots_asked ≡ Ok t3) (built3 : IsBuilt t3 p3 s3) (added3 : t3 ≡ record t2 { boots = parts.boots }) where
          left3 : spelling parts ≡ spelling_from p3 t3 events_asked
          left3 = left2 ∙ built_append t2 p2 s2 built2 t3 p3 s3 boots_asked events_asked built3 boots

          pub events_give : {X : Type 0} (view : X → TraceValue) (result : Result X OfFault) → GivesPart view result (spelling_from p3 t3 events_asked) → GivesPart view result (spelling parts)
          events_give view result h = let P : Result TraceValue ℕ → Type 0 = λ r. GivesPart view result r in subst P (sym left3) h

-- what is made is a trace
pub made_trace : (parts t trace : TraceValue) (place size : ℕ) → IsBuilt t place size → t ≡ parts → 1 ≤ length parts.patches → trace ≡ t → IsTrace trace × (trace ≡ parts)
made_trace parts t trace place size built same some is =
    let P : TraceValue → Type 0 = λ v. IsTrace v in
    (subst P (sym is) (built_trace t place size built (omega (arith, ap (λ v. length v.patches) same))), is ∙ same)

-- ---- The parts of a trace have spellings

longer : (t u : TraceValue) (lines : List (List (List ℕ))) → Grown t lines u → length (text_of t) ≤ length (text_of u)
longer t u lines grown =
    let body : length (flat_map line_of (lines_after_header u)) ≡ length (flat_map line_of (lines_after_header t)) + length (flat_map line_of lines) =
    ap (λ ls. length (flat_map line_of ls)) grown.now ∙ ap length (flat_map-append line_of (lines_after_header t) lines) ∙ length-append (flat_map line_of (lines_after_header t)) (flat_map line_of lines)
    in
    omega (arith, text_length t, text_length u, ap (λ f. length (header f)) grown.form)

spelled_again : (place : ℕ) (t u : TraceValue) (lines : List (List (List ℕ))) → SoFar t → fold_lines t lines ≡ Ok u → length (text_of u) ≤ 134217728 → spelling_from place t lines ≡ Ok u
unfolding spelling_from spelled
spelled_again place t u [] s h few = ap (λ v. Ok v) (ok_is h)
spelled_again place t u (line ∷ more) s h few =
    let a = bind_ok (with_line t line) (λ v. fold_lines v more) u h in
    let next = is_next t s a.0 line a.1 in
    let rest : spelling_from (place + 1) a.0 more ≡ Ok u = spelled_again (place + 1) a.0 u more next.limits a.2 few in
    let short : length (text_of a.0) ≤ length (text_of u) = longer a.0 u more (grows (place + 1) a.0 u more next.limits rest) in
    rw (a.1, not_less 134217728 (length (text_of a.0)) (nat_lt 134217728 (length (text_of a.0))) refl (omega arith)) rest

asked_good : (count : ℕ) (patches : List (List SymId)) → AllByRecursion (λ patch. patch_refusal count patch ≡ None) patches → map (asked_patch count) patches ≡ patches
asked_good count [] good = refl
asked_good count ([] ∷ patches) good = absurd (cc good.0)
asked_good count ((id ∷ ids) ∷ patches) good = ap (λ ps. (id ∷ ids) ∷ ps) (asked_good count patches good.1)

asked_all : (count : ℕ) (patches : List (List SymId)) → 1 ≤ length patches → asked_patches count patches ≡ map (asked_patch count) patches
asked_all count [] some = absurd (omega arith)
asked_all count (patch ∷ patches) some = refl

pub trace_spelled : (parts : TraceValue) → IsTrace parts → spelling parts ≡ Ok parts
unfolding spelling
trace_spelled parts t =
    let patches : asked_patches (length parts.symbols) parts.patches ≡ parts.patches = asked_all (length parts.symbols) parts.patches t.patches_some ∙ asked_good (length parts.symbols) parts.patches t.patches in
    let put : List (List SymId) → TraceValue = λ p. record parts { patches = p } in
    ap (λ p. spelling_from 1 (empty parts.form) (lines_after_header (put p))) patches ∙ spelled_again 1 (empty parts.form) parts (lines_after_header parts) (empty_limits parts.form) (all_fold parts t) t.size

pub gives_trace : (result : Result TraceValue OfFault) (parts : TraceValue) → GivesPart (λ t. t) result (spelling parts) → IsTrace parts → GivesPart (λ t. t) result (Ok parts)
gives_trace result parts h t = let P : Result TraceValue ℕ → Type 0 = λ r. GivesPart (λ v. v) result r in subst P (trace_spelled parts t) h
