-- Lines of parts, one after another.
use Rattle.std.proofs.Common.{◌≡◌, ◌<◌, ◌≤◌, ◌+◌, ℕ, true, List, [], ◌∷◌, ◌++◌, length, Result, Ok, Err, refl, sym, ap, ◌∙◌, arith, subst, append_assoc}
use Rattle.std.specs.Prelude.{nat_lt, IsErr, OnOk, MatchResult}
use Rattle.std.specs.List.{flat_map, join_with_byte}
use Rattle.std.proofs.lemmas.Bool.{ltb-false}
use Rattle.std.proofs.lemmas.Bool.Decides.{Decides-ltb}
use Rattle.std.proofs.lemmas.List.{append-nil, length-append}
use Rattle.std.proofs.lemmas.Grind.{flat_map-append}
use Rattle.lp_text.specs.declared.form.TraceForm.{TraceForm}
use Rattle.lp_text.specs.declared.form.TraceForm.TheVariants.{Single, Stacked, WithResched}
use Rattle.lp_text.specs.declared.of.OfFault.{OfFault}
use Rattle.lp_text.specs.declared.of.OfFault.TheVariants.{Unwritable}
use Rattle.lp_text.specs.declared.fault.Cause.{Cause}
use Rattle.lp_text.specs.declared.fault.Cause.TheVariants as cause
use Rattle.lp_text.specs.declared.fault.LineFault.{LineFault}
use Rattle.lp_text.specs.declared.fault.LineFault.TheVariants as fault
use Rattle.lp_text.specs.inside.LineFaults.{IsLineFault}
use Rattle.lp_text.specs.Words.{header, line_of}
use Rattle.lp_text.specs.Traces.{TraceValue, IsTrace, lines_after_header, patch_lines, text_of}
use Rattle.lp_text.specs.Reading.{◌>>=◌, empty, with_line}
use Rattle.lp_text.specs.Build.{spelled, at_place, spelling_from, IsOfFault, GivesPart}
use Rattle.lp_text.specs.inside.Builders.{IsBuilt, of_fault}
use Rattle.lp_text.proofs.Choices.{guard_ok, bind_ok, ok_is}
use Rattle.lp_text.proofs.Pushes.{not_less}
use Rattle.lp_text.proofs.Sound.{empty_limits}
use Rattle.lp_text.proofs.Steps.{SoFar, IsNext, is_next}

-- ---- One line

at_place_ok : {A : Type 0} (place : ℕ) (r : Result A Cause) (x : A) → at_place place r ≡ Ok x → r ≡ Ok x
at_place_ok place (Ok y) x h = ap (λ z. Ok z) (ok_is h)
at_place_ok place (Err why) x h = absurd (cc h)

pub spelled_ok : (t u : TraceValue) (line : List (List ℕ)) → spelled t line ≡ Ok u → (with_line t line ≡ Ok u) × (length (text_of u) ≤ 134217728)
unfolding spelled
spelled_ok t u line h =
    let a = bind_ok (with_line t line) _ u h in
    let b = guard_ok (nat_lt 134217728 (length (text_of a.0))) cause.Long _ u a.2 in
    let same : a.0 ≡ u = ok_is b.1 in
    let few : length (text_of a.0) ≤ 134217728 = ltb-false 134217728 (length (text_of a.0)) b.0 in
    (a.1 ∙ ap (λ v. Ok v) same, omega (arith, ap (λ v. length (text_of v)) same))

one_ok : (place : ℕ) (t u : TraceValue) (line : List (List ℕ)) → spelled t line ≡ Ok u → spelling_from place t (line ∷ []) ≡ Ok u
unfolding spelling_from
one_ok place t u line h = rw h refl

one_err : (place : ℕ) (t : TraceValue) (line : List (List ℕ)) (why : Cause) → spelled t line ≡ Err why → spelling_from place t (line ∷ []) ≡ Err place
unfolding spelling_from
one_err place t line why h = rw h refl

refused_at : (place : ℕ) (t : TraceValue) (line : List (List ℕ)) (r : Result TraceValue Cause) → with_line t line ≡ r → IsErr r → spelling_from place t (line ∷ []) ≡ Err place
unfolding spelled
refused_at place t line (Ok u) e h = absurd (cc h)
refused_at place t line (Err why) e h = one_err place t line why (rw e refl)

-- ---- Several lines

-- what lines made of what was there
pub record Grown (t : TraceValue) (lines : List (List (List ℕ))) (u : TraceValue) : Type 0 where
  pub form : u.form ≡ t.form
  pub limits : SoFar u
  pub now : lines_after_header u ≡ lines_after_header t ++ lines

pub grows : (place : ℕ) (t u : TraceValue) (lines : List (List (List ℕ))) → SoFar t → spelling_from place t lines ≡ Ok u → Grown t lines u
unfolding spelling_from
grows place t u [] s h =
    let P : TraceValue → Type 0 = λ v. Grown t [] v in
    subst P (ok_is h) (record { form = refl; limits = s; now = sym (append-nil (lines_after_header t)) })
grows place t u (line ∷ more) s h =
    let a = bind_ok (at_place place (spelled t line)) _ u h in
    let one = is_next t s a.0 line (spelled_ok t a.0 line (at_place_ok place (spelled t line) a.0 a.1)).0 in
    let rest = grows (place + 1) a.0 u more one.limits a.2 in
    record {
      form = rest.form ∙ one.form;
      limits = rest.limits;
      now = rest.now ∙ ap (λ ls. ls ++ more) one.lines ∙ append_assoc (lines_after_header t) (line ∷ []) more;
    }

pub spelling_append : (place : ℕ) (t u : TraceValue) (xs ys : List (List (List ℕ))) → spelling_from place t xs ≡ Ok u → spelling_from place t (xs ++ ys) ≡ spelling_from (place + length xs) u ys
unfolding spelling_from
spelling_append place t u [] ys h =
    let same : place ≡ place + 0 = omega arith in
    ap (λ v. spelling_from place v ys) (ok_is h) ∙ ap (λ n. spelling_from n u ys) same
spelling_append place t u (line ∷ xs) ys h =
    let a = bind_ok (at_place place (spelled t line)) _ u h in
    let same : place + 1 + length xs ≡ place + length (line ∷ xs) = omega arith in
    ap (λ r. r >>= λ v. spelling_from (place + 1) v (xs ++ ys)) a.1 ∙ spelling_append (place + 1) a.0 u xs ys a.2 ∙ ap (λ n. spelling_from n u ys) same

-- a fault before other lines
err_first : {A B : Type 0} (r : Result A ℕ) (f g : A → Result B ℕ) (place : ℕ) → ((x : A) → f x ≡ Err place → g x ≡ Err place) → (r >>= f) ≡ Err place → (r >>= g) ≡ Err place
err_first (Ok x) f g place each h = each x h
err_first (Err e) f g place each h = h

pub spelling_stops : (place at : ℕ) (t : TraceValue) (xs ys : List (List (List ℕ))) → spelling_from place t xs ≡ Err at → spelling_from place t (xs ++ ys) ≡ Err at
unfolding spelling_from
spelling_stops place at t [] ys h = absurd (cc h)
spelling_stops place at t (line ∷ xs) ys h =
    err_first (at_place place (spelled t line)) (λ v. spelling_from (place + 1) v xs) (λ v. spelling_from (place + 1) v (xs ++ ys)) at (λ v. spelling_stops (place + 1) at v xs ys) h

-- ---- What is built

pub on_ok : {X E : Type 0} (P : Type 0) (result : Result X E) → P → OnOk result P
on_ok P (Ok x) h = h
on_ok P (Err e) h = tt

pub built_empty : (form : TraceForm) → IsBuilt (empty form) 1 (length (header form) + 1)
unfolding spelling_from lines_after_header patch_lines text_of
built_empty Single = record { spells = refl; place_is = refl; size_is = refl; few = omega arith }
built_empty Stacked = record { spells = refl; place_is = refl; size_is = refl; few = omega arith }
built_empty WithResched = record { spells = refl; place_is = refl; size_is = refl; few = omega arith }

pub built_empty_at : (form : TraceForm) (t : TraceValue) → empty form ≡ t → (t ≡ empty form) × IsBuilt t 1 (length (header form) + 1)
built_empty_at form t h = let P : TraceValue → Type 0 = λ v. IsBuilt v 1 (length (header form) + 1) in (sym h, subst P h (built_empty form))

lines_short : (ls : List (List (List ℕ))) → length ls ≤ length (flat_map line_of ls)
lines_short [] = omega arith
lines_short (line ∷ ls) =
    let long : length (line_of line) ≡ length (join_with_byte 32 line) + 1 = length-append (join_with_byte 32 line) (10 ∷ []) in
    omega (arith, length-append (line_of line) (flat_map line_of ls), lines_short ls)

pub text_length : (t : TraceValue) → length (text_of t) ≡ length (header t.form) + 1 + length (flat_map line_of (lines_after_header t))
unfolding text_of
text_length t =
    let body : List ℕ = flat_map line_of (lines_after_header t) in
    omega (arith, length-append (header t.form ++ 10 ∷ []) body, length-append (header t.form) (10 ∷ []))

text_next : (t u : TraceValue) (line : List (List ℕ)) → IsNext t line u → length (text_of u) ≡ length (text_of t) + length (line_of line)
text_next t u line next =
    let lines : flat_map line_of (lines_after_header u) ≡ flat_map line_of (lines_after_header t) ++ line_of line =
    ap (flat_map line_of) next.lines ∙ flat_map-append line_of (lines_after_header t) (line ∷ []) ∙ ap (λ r. flat_map line_of (lines_after_header t) ++ r) (append-nil (line_of line))
    in
    let long : length (flat_map line_of (lines_after_header u)) ≡ length (flat_map line_of (lines_after_header t)) + length (line_of line) = ap length lines ∙ length-append (flat_map line_of (lines_after_header t)) (line_of line) in
    omega (arith, text_length t, text_length u, ap (λ f. length (header f)) next.form)

module _ (t : TraceValue) (place size : ℕ) (built : IsBuilt t place size) where
  pub built_limits : SoFar t
  built_limits = (grows 1 (empty t.form) t (lines_after_header t) (empty_limits t.form) built.spells).limits

  -- the place is no more than the bytes, but for one
  pub place_few : place ≤ size
  place_few =
      let most : length (lines_after_header t) ≤ length (flat_map line_of (lines_after_header t)) = lines_short (lines_after_header t) in
      let at : place ≡ length (lines_after_header t) + 1 = built.place_is in
      let bytes : size ≡ length (text_of t) = built.size_is in
      omega (arith, text_length t)

  module _ (u : TraceValue) (line : List (List ℕ)) (took : with_line t line ≡ Ok u) where
    next : IsNext t line u
    next = is_next t built_limits u line took

    bytes_next : length (text_of u) ≡ size + length (line_of line)
    bytes_next = let bytes : size ≡ length (text_of t) = built.size_is in omega (arith, text_next t u line next)

    spelled_next : size + length (line_of line) ≤ 134217728 → spelled t line ≡ Ok u
    unfolding spelled
    spelled_next few = rw (took, not_less 134217728 (length (text_of u)) (nat_lt 134217728 (length (text_of u))) refl (omega (arith, bytes_next))) refl

    -- a line more, within the size
    pub line_fits : (after bytes : ℕ) → after ≡ place + 1 → bytes ≡ size + length (line_of line) → bytes ≤ 134217728 → IsBuilt u after bytes × (spelling_from place t (line ∷ []) ≡ Ok u)
    line_fits after bytes at long few =
        let one : spelled t line ≡ Ok u = spelled_next (omega arith) in
        let n = next in
        let whole : spelling_from 1 (empty u.form) (lines_after_header u) ≡ Ok u =
        ap (λ f. spelling_from 1 (empty f) (lines_after_header u)) n.form ∙ ap (spelling_from 1 (empty t.form)) n.lines ∙ spelling_append 1 (empty t.form) t (lines_after_header t) (line ∷ []) built.spells ∙ one_ok (1 + length (lines_after_header t)) t u line one
        in
        let was : place ≡ length (lines_after_header t) + 1 = built.place_is in
        let more : length (lines_after_header u) ≡ length (lines_after_header t) + 1 = ap length n.lines ∙ length-append (lines_after_header t) (line ∷ []) in
        (record { spells = whole; place_is = omega arith; size_is = omega (arith, bytes_next); few = few }, one_ok place t u line one)

    -- a line past the size
    pub line_long : 134217728 < size + length (line_of line) → spelling_from place t (line ∷ []) ≡ Err place
    unfolding spelled
    line_long many =
        let over : nat_lt 134217728 (length (text_of u)) ≡ true = (Decides-ltb 134217728 (length (text_of u))).1 (omega (arith, bytes_next)) in
        one_err place t line cause.Long (rw (took, over) refl)

    -- a line that was ended, or was too long
    abbrev pub Ended : Result (Unit {0}) OfFault → ℕ → ℕ → ℕ → Type 0
    Ended result bytes after long = MatchResult result (λ _. (after ≡ place + 1) × (long ≡ size + bytes) × (long ≤ 134217728)) (λ fault. (fault ≡ Unwritable place) × (134217728 < size + bytes))

    pub ended_gives : (result : Result (Unit {0}) OfFault) (bytes after long : ℕ) (now : TraceValue) → Ended result bytes after long → bytes ≡ length (line_of line) → now ≡ u → GivesPart (λ _. now) result (spelling_from place t (line ∷ []))
    ended_gives (Ok x) bytes after long now h is same = (line_fits after long h.0 (omega arith) h.2).1 ∙ ap (λ v. Ok v) (sym same)
    ended_gives (Err e) bytes after long now h is same =
        let P : OfFault → Type 0 = λ f. IsOfFault f (spelling_from place t (line ∷ [])) in
        subst P (sym h.0) (line_long (omega arith))

    pub ended_built : (result : Result (Unit {0}) OfFault) (bytes after long : ℕ) (now : TraceValue) → Ended result bytes after long → bytes ≡ length (line_of line) → now ≡ u → OnOk result (IsBuilt now after long)
    ended_built (Ok x) bytes after long now h is same =
        let P : TraceValue → Type 0 = λ v. IsBuilt v after long in
        subst P (sym same) (line_fits after long h.0 (omega arith) h.2).0
    ended_built (Err e) bytes after long now h is same = tt

  -- a line that nothing reads
  pub line_refused : (line : List (List ℕ)) → IsErr (with_line t line) → spelling_from place t (line ∷ []) ≡ Err place
  line_refused line refused = refused_at place t line (with_line t line) refl refused

  -- the fault of a line, of which a reader says this
  pub fault_of_line : (line : List (List ℕ)) (e : LineFault) (says : Result TraceValue Cause) → with_line t line ≡ says → IsLineFault e says → IsOfFault (of_fault place e) (spelling_from place t (line ∷ []))
  unfolding spelled
  fault_of_line line fault.NoMemory says same h = tt
  fault_of_line line (fault.Cause why) says same h = one_err place t line why (rw (same, h) refl)

  -- lines after those that stand
  pub built_append : (u : TraceValue) (after bytes : ℕ) (xs ys : List (List (List ℕ))) → IsBuilt u after bytes → spelling_from place t xs ≡ Ok u → spelling_from place t (xs ++ ys) ≡ spelling_from after u ys
  built_append u after bytes xs ys built_u h =
      let g = grows place t u xs built_limits h in
      let more : length (lines_after_header u) ≡ length (lines_after_header t) + length xs = ap length g.now ∙ length-append (lines_after_header t) xs in
      let was : place ≡ length (lines_after_header t) + 1 = built.place_is in
      let is : after ≡ length (lines_after_header u) + 1 = built_u.place_is in
      let at : place + length xs ≡ after = omega arith in
      spelling_append place t u xs ys h ∙ ap (λ n. spelling_from n u ys) at

  pub built_trace : 1 ≤ length t.patches → IsTrace t
  built_trace some =
      let limits = built_limits in
      let bytes : size ≡ length (text_of t) = built.size_is in
      let few : size ≤ 134217728 = built.few in
      record {
        names = limits.names;
        names_differ = limits.names_differ;
        symbols_few = limits.symbols_few;
        patches = limits.patches;
        patches_some = some;
        patches_few = limits.patches_few;
        boots = limits.boots;
        boots_differ = limits.boots_differ;
        events = limits.events;
        events_told = limits.events_told;
        events_few = limits.events_few;
        size = omega arith;
      }
