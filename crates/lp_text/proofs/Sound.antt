-- What is read is a trace, and the text is its spelling.
use Rattle.std.proofs.Common.{◌≡◌, ◌<◌, ◌≤◌, ◌+◌, ℕ, zero, suc, Bool, true, false, not, List, [], ◌∷◌, ◌++◌, length, Result, Ok, Err, cond, refl, sym, ap, ◌∙◌, arith, subst, append_assoc}
use Rattle.std.specs.Prelude.{nat_lt, ◌==◌}
use Rattle.std.specs.List.{flat_map, join_with_byte, IsDistinct}
use Rattle.std.proofs.lemmas.Bool.{ltb-false, eqb-true}
use Rattle.std.proofs.lemmas.List.{append-nil}
use Rattle.std.proofs.lemmas.List.Splits.{join_with_byte-slice_split}
use Rattle.std.proofs.lemmas.Grind.{flat_map-append}
use Rattle.lp_text.specs.declared.form.TraceForm.{TraceForm}
use Rattle.lp_text.specs.declared.fault.Cause.{Cause}
use Rattle.lp_text.specs.declared.fault.Cause.TheVariants as cause
use Rattle.lp_text.specs.Words.{header, line_of, lines, parts, words, form_of}
use Rattle.lp_text.specs.Traces.{TraceValue, IsTrace, lines_after_header, patch_lines, text_of}
use Rattle.lp_text.specs.Reading.{needs, at_end, empty, fault_at, reading, reading_from, reading_lines, with_line}
use Rattle.lp_text.proofs.Choices.{guard_ok, bind_ok, ok_is}
use Rattle.lp_text.proofs.Pushes.{differ}
use Rattle.lp_text.proofs.Spelled.{needs_ok, form_spelled}
use Rattle.lp_text.proofs.Steps.{SoFar, IsNext, is_next}

-- the parts of a text give it back
pub joined : (at : ℕ) (bytes : List ℕ) → join_with_byte at (parts at bytes) ≡ bytes
unfolding parts
joined at bytes = join_with_byte-slice_split at bytes

pub fault_ok : {A : Type 0} (number : ℕ) (r : Result A Cause) (x : A) → fault_at number r ≡ Ok x → r ≡ Ok x
fault_ok number (Ok y) x h = ap (λ z. Ok z) (ok_is h)
fault_ok number (Err why) x h = absurd (cc h)

-- the lines of a trace as bytes
pub body : TraceValue → List ℕ
body trace = flat_map line_of (lines_after_header trace)

body_next : (t u : TraceValue) (line : List ℕ) → IsNext t (words line) u → body u ≡ body t ++ (line ++ 10 ∷ [])
unfolding body
body_next t u line next =
    ap (flat_map line_of) next.lines ∙ flat_map-append line_of (lines_after_header t) (words line ∷ []) ∙ ap (λ r. body t ++ r) (append-nil (line_of (words line)) ∙ ap (λ l. l ++ 10 ∷ []) (joined 32 line))

-- what was read from some lines
pub record IsRead (before : TraceValue) (text : List ℕ) (trace : TraceValue) : Type 0 where
  pub form : trace.form ≡ before.form
  pub limits : SoFar trace
  pub patches_some : 1 ≤ length trace.patches
  pub bytes : body trace ≡ body before ++ text

positive : (n : ℕ) → ¬ (n ≡ 0) → 1 ≤ n
positive zero h = absurd (h refl)
positive (suc n) h = omega arith

no_length : (xs : List ℕ) → length xs ≡ 0 → xs ≡ []
no_length [] h = refl
no_length (x ∷ xs) h = absurd (omega arith)

pub empty_list : (xs : List ℕ) (b : Bool) → (length xs == 0) ≡ b → not b ≡ false → xs ≡ []
empty_list xs true e h = no_length xs (eqb-true (length xs) 0 e)
empty_list xs false e h = absurd (cc h)

end_read : (t u : TraceValue) (rest : List ℕ) → SoFar t → at_end t rest ≡ Ok u → IsRead t rest u
unfolding at_end
end_read t u rest s h =
    let a = guard_ok (not (length rest == 0)) cause.Unended _ u h in
    let b = guard_ok (length t.patches == 0) cause.Patch _ u a.1 in
    let P : TraceValue → Type 0 = λ v. IsRead t rest v in
    subst P (ok_is b.1) (record {
      form = refl;
      limits = s;
      patches_some = positive (length t.patches) (differ (length t.patches) 0 b.0);
      bytes = sym (append-nil (body t)) ∙ ap (λ r. body t ++ r) (sym (empty_list rest (length rest == 0) refl a.0));
    })

pub from_read : (number : ℕ) (t : TraceValue) (ls : List (List ℕ)) (u : TraceValue) → 0 < length ls → SoFar t → reading_from number t ls ≡ Ok u → IsRead t (join_with_byte 10 ls) u
unfolding reading_from
from_read number t [] u some s h = absurd (omega arith)
from_read number t (rest ∷ []) u some s h = end_read t u rest s (fault_ok number (at_end t rest) u h)
from_read number t (line ∷ next ∷ more) u some s h =
    let a = bind_ok (fault_at number (with_line t (words line))) _ u h in
    let one = is_next t s a.0 (words line) (fault_ok number (with_line t (words line)) a.0 a.1) in
    let rest = from_read (number + 1) a.0 (next ∷ more) u (omega arith) one.limits a.2 in
    record {
      form = rest.form ∙ one.form;
      limits = rest.limits;
      patches_some = rest.patches_some;
      bytes = rest.bytes ∙ ap (λ b. b ++ join_with_byte 10 (next ∷ more)) (body_next t a.0 line one) ∙ append_assoc (body t) (line ++ 10 ∷ []) (join_with_byte 10 (next ∷ more)) ∙ ap (λ r. body t ++ r) (append_assoc line (10 ∷ []) (join_with_byte 10 (next ∷ more)));
    }

pub empty_limits : (form : TraceForm) → SoFar (empty form)
unfolding IsDistinct
empty_limits form = record { names = tt; names_differ = tt; symbols_few = omega arith; patches = tt; patches_few = omega arith; boots = tt; boots_differ = tt; events = tt; events_told = tt; events_few = omega arith }

empty_body : (form : TraceForm) → body (empty form) ≡ []
unfolding body lines_after_header patch_lines
empty_body form = refl

pub no_choice : {A : Type 0} (b : Bool) (why or : Cause) (x : A) → cond b (Err why) (Err or) ≡ Ok x → ⊥
no_choice true why or x h = absurd (cc h)
no_choice false why or x h = absurd (cc h)

pub lines_read : (ls : List (List ℕ)) (u : TraceValue) → reading_lines ls ≡ Ok u → SoFar u × (1 ≤ length u.patches) × (join_with_byte 10 ls ≡ text_of u)
unfolding reading_lines text_of body
lines_read [] u h = absurd (cc h)
lines_read (rest ∷ []) u h = absurd (no_choice (length rest == 0) cause.Header cause.Unended u (fault_ok 1 _ u h))
lines_read (line ∷ next ∷ more) u h =
    let a = bind_ok (fault_at 1 (needs cause.Header (form_of line))) _ u h in
    let form : line ≡ header a.0 = form_spelled line a.0 (needs_ok cause.Header (form_of line) a.0 (fault_ok 1 (needs cause.Header (form_of line)) a.0 a.1)) in
    let r = from_read 2 (empty a.0) (next ∷ more) u (omega arith) (empty_limits a.0) a.2 in
    let bytes : flat_map line_of (lines_after_header u) ≡ join_with_byte 10 (next ∷ more) = r.bytes ∙ ap (λ b. b ++ join_with_byte 10 (next ∷ more)) (empty_body a.0) in
    let rest : List ℕ = join_with_byte 10 (next ∷ more) in
    let spelled : line ++ 10 ∷ rest ≡ header u.form ++ 10 ∷ [] ++ flat_map line_of (lines_after_header u) =
    ap (λ l. l ++ 10 ∷ rest) form ∙ sym (append_assoc (header a.0) (10 ∷ []) rest) ∙ ap (λ b. header a.0 ++ 10 ∷ [] ++ b) (sym bytes) ∙ ap (λ f. header f ++ 10 ∷ [] ++ flat_map line_of (lines_after_header u)) (sym r.form)
    in
    (r.limits, r.patches_some, spelled)

-- what was read is a trace where its text is short enough
pub is_trace : (u : TraceValue) → SoFar u → 1 ≤ length u.patches → length (text_of u) ≤ 134217728 → IsTrace u
is_trace u limits some few =
    record {
      names = limits.names;
      names_differ = limits.names_differ;
      symbols_few = limits.symbols_few;
      patches = limits.patches;
      patches_some = some;
      patches_few = limits.patches_few;
      boots = limits.boots;
      boots_differ = limits.boots_differ;
      events = limits.events;
      events_told = limits.events_told;
      events_few = limits.events_few;
      size = few;
    }

pub sound : (text : List ℕ) (u : TraceValue) → reading text ≡ Ok u → IsTrace u × (text ≡ text_of u)
unfolding reading
sound text u h =
    let a = guard_ok (nat_lt 134217728 (length text)) _ _ u h in
    let r = lines_read (lines text) u a.1 in
    let same : text ≡ text_of u = sym (joined 10 text) ∙ r.2 in
    let few : length text ≤ 134217728 = ltb-false 134217728 (length text) a.0 in
    (is_trace u r.0 r.1 (omega (arith, ap length same)), same)
