-- Bytes without the end of a line.
use Rattle.std.proofs.Common.{◌≡◌, ◌+◌, ℕ, Bool, true, false, List, [], ◌∷◌, ◌++◌, length, cond, Ok, refl, sym, ap, subst, ◌∙◌, append_assoc, arith}
use Rattle.std.specs.Prelude.{count_by}
use Rattle.std.specs.List.{slice_split, join_with_byte, onto_first}
use Rattle.std.proofs.lemmas.List.Splits.{join_with_byte-slice_split, length-slice_split, slice_split-cons_yes, slice_split-cons_no}
use Rattle.std.proofs.lemmas.List.Recursion.{is_count_by}
use Rattle.lp_text.specs.declared.fault.Cause.TheVariants as cause
use Rattle.lp_text.specs.declared.fault.LineFault.{LineFault}
use Rattle.lp_text.specs.declared.fault.ReadFault.{ReadFault}
use Rattle.lp_text.specs.Faults.{IsReadFault}
use Rattle.lp_text.specs.inside.Cut.{IsCut}
use Rattle.lp_text.specs.inside.LineFaults.{read_fault, IsLineFault}
use Rattle.lp_text.specs.Reading.{empty, fault_at, needs, reading_from, reading_lines, with_line}
use Rattle.lp_text.specs.Traces.{TraceValue}
use Rattle.lp_text.specs.inside.Streams.{IsUnbroken, is_end}
use Rattle.lp_text.specs.Words.{form_of, lines, parts, words}
use Rattle.lp_text.proofs.OnLines.{first_fault, first_line, line_fault, one_line}

-- how many ends of lines there are, one byte after the other
abbrev ends : List ℕ → ℕ
ends [] = 0
ends (x ∷ bytes) = cond (is_end x) (1 + ends bytes) (ends bytes)

ends-counted : (bytes : List ℕ) → ends bytes ≡ count_by is_end bytes
ends-counted bytes = is_count_by ends is_end refl (λ x xs. refl) bytes

ends-append : (a b : List ℕ) → ends (a ++ b) ≡ ends a + ends b
ends-append [] b = omega arith
ends-append (x ∷ a) b = at (is_end x) (ends-append a b)
  where
    at : (here : Bool) → ends (a ++ b) ≡ ends a + ends b → cond here (1 + ends (a ++ b)) (ends (a ++ b)) ≡ cond here (1 + ends a) (ends a) + ends b
    at true rest = omega (arith, rest)
    at false rest = rest

-- two such parts are one
pub unbroken_both : (a b : List ℕ) → IsUnbroken a → IsUnbroken b → IsUnbroken (a ++ b)
unbroken_both a b first second = omega (arith, ends-append a b, first, second, ends-counted a, ends-counted b, ends-counted (a ++ b))

-- what is no line and more is one
pub unbroken_alone : (bytes first : List ℕ) → lines bytes ≡ first ∷ [] → IsUnbroken bytes
unfolding parts
unbroken_alone bytes first e = omega (arith, length-slice_split is_end bytes, ap length e)

pub alone : (bytes first : List ℕ) → lines bytes ≡ first ∷ [] → bytes ≡ first
unfolding parts
alone bytes first e = sym (join_with_byte-slice_split 10 bytes) ∙ ap (join_with_byte 10) e

-- what stands before the end of a line
pub unbroken_first : (text first rest : List ℕ) → IsCut 10 text first rest → IsUnbroken first
unfolding parts
unbroken_first text first rest cut = omega (arith, length-slice_split is_end (first ++ 10 ∷ []), ap length (cut.again []), ends-append first (10 ∷ []), ends-counted first, ends-counted (first ++ 10 ∷ []))

cut_there : (bytes tail : List ℕ) → ends bytes ≡ 0 → lines (bytes ++ 10 ∷ tail) ≡ bytes ∷ lines tail
unfolding parts
cut_there [] tail h = slice_split-cons_yes is_end 10 tail refl
cut_there (x ∷ bytes) tail h = at (is_end x) refl (cut_there bytes tail) h
  where
    at : (here : Bool) → is_end x ≡ here → (ends bytes ≡ 0 → slice_split is_end (bytes ++ 10 ∷ tail) ≡ bytes ∷ slice_split is_end tail) → cond here (1 + ends bytes) (ends bytes) ≡ 0 → slice_split is_end (x ∷ (bytes ++ 10 ∷ tail)) ≡ (x ∷ bytes) ∷ slice_split is_end tail
    at true is rest none = absurd (omega (arith, none))
    at false is rest none = slice_split-cons_no is_end x (bytes ++ 10 ∷ tail) is ∙ ap (onto_first x) (rest none)

-- it is a line once its end follows
pub line_ends : (bytes tail : List ℕ) → IsUnbroken bytes → lines (bytes ++ 10 ∷ tail) ≡ bytes ∷ lines tail
line_ends bytes tail h = cut_there bytes tail (ends-counted bytes ∙ h)

-- a cut after it
ended : (line : List ℕ) → IsUnbroken line → IsCut 10 (line ++ 10 ∷ []) line []
ended line unbroken = record { whole = refl; again = λ tail. line_ends line tail unbroken }

-- a line with its end, and the bytes that follow
one_text : (line bytes : List ℕ) → line ++ 10 ∷ bytes ≡ (line ++ 10 ∷ []) ++ bytes
one_text line bytes = sym (append_assoc line (10 ∷ []) bytes)

module _ (line : List ℕ) (unbroken : IsUnbroken line) where
  module _ (number : ℕ) (so_far : TraceValue) where
    pub line_read : (new : TraceValue) → with_line so_far (words line) ≡ Ok new → (bytes : List ℕ) → reading_from number so_far (lines (line ++ 10 ∷ bytes)) ≡ reading_from (number + 1) new (lines bytes)
    line_read new h bytes = ap (λ t. reading_from number so_far (lines t)) (one_text line bytes) ∙ one_line number so_far (line ++ 10 ∷ []) line [] (ended line unbroken) new h bytes

    pub line_refused : (e : LineFault) (r : ReadFault) → IsLineFault e (with_line so_far (words line)) → r ≡ read_fault number e → (bytes : List ℕ) → IsReadFault r (reading_from number so_far (lines (line ++ 10 ∷ bytes)))
    line_refused e r h at bytes =
        subst (λ t. IsReadFault r (reading_from number so_far (lines t))) (sym (one_text line bytes)) (line_fault number so_far (line ++ 10 ∷ []) line [] (ended line unbroken) e r h at bytes)

  pub first_read : (parser : TraceValue) → fault_at 1 (needs cause.Header (form_of line)) ≡ Ok parser.form → parser ≡ empty parser.form → (bytes : List ℕ) → reading_lines (lines (line ++ 10 ∷ bytes)) ≡ reading_from 2 parser (lines bytes)
  first_read parser h e bytes = ap (λ t. reading_lines (lines t)) (one_text line bytes) ∙ first_line (line ++ 10 ∷ []) line [] (ended line unbroken) parser h e bytes

  pub first_refused : (e : ReadFault) → IsReadFault e (fault_at 1 (needs cause.Header (form_of line))) → (bytes : List ℕ) → IsReadFault e (reading_lines (lines (line ++ 10 ∷ bytes)))
  first_refused e h bytes =
      subst (λ t. IsReadFault e (reading_lines (lines t))) (sym (one_text line bytes)) (first_fault (line ++ 10 ∷ []) line [] (ended line unbroken) e h bytes)
