-- The first lines of a certificate that are kept, and their text.
use Rattle.std.proofs.Common.{◌≡◌, ◌<◌, ◌≤◌, ◌+◌, ℕ, List, [], ◌∷◌, ◌++◌, length, map, take, drop, get_or, option_to_list, slice_get, Option, Some, None, Result, Ok, Err, is_ok, if◌then◌else◌, IfNone, OnErr, refl, subst, sym, ap, ◌∙◌, arith, length-append, append_assoc, take-append-drop}
use Rattle.std.proofs.Math.Seq.{get_or-append_seam, take-append_seam}
use Rattle.std.proofs.lemmas.Grind.{flat_map-append}
use Rattle.std.proofs.lemmas.List.{append-nil, get_or-take, get_or_read, length-take-le, map-append, take_all, take-append-le, take-take}
use Rattle.std.proofs.Math.ListN.{get_or-append}
use borrow.Author.Count.{below_more}
use Rattle.std.specs.List.{flat_map}
use Rattle.lp_definitions.specs.declared.cert.Cert.{Cert}
use Rattle.lp_definitions.specs.declared.line.Line.{Line}
use Rattle.lp_cert.specs.Beside.{BeginWith}
use Rattle.lp_text.specs.CertTexts.{reason_words}
use Rattle.lp_text.specs.Words.{line_of}
use Rattle.lp_trace.specs.inside.KeptLines.{AreAdded, AreFirst, AreKept, text_of}

pub text-append : (ls ms : List Line) → text_of (ls ++ ms) ≡ text_of ls ++ text_of ms
text-append ls ms =
    ap (flat_map line_of) (map-append reason_words ls ms) ∙ flat_map-append line_of (map reason_words ls) (map reason_words ms)

text-one : (line : Line) → text_of (line ∷ []) ≡ line_of (reason_words line)
text-one line = append-nil (line_of (reason_words line))

-- ---- What is kept

pub none_kept : (starts text : List ℕ) → starts ≡ [] → text ≡ [] → AreKept [] starts text
none_kept starts text none empty = rw (none, empty) (record { count = refl; whole = refl; begins = λ i below. absurd (omega arith) })

-- all are among the first, so many
pub all_kept : (lines : List Line) (starts text : List ℕ) (n : ℕ) → AreKept lines starts text → length starts ≤ n → AreKept (take n lines) starts text
all_kept lines starts text n kept few =
    let all : take n lines ≡ lines = take_all n lines (omega (arith, kept.count)) in
    subst (λ ls. AreKept ls starts text) (sym all) kept

-- the first lines, and the text before the next one
pub first_kept : (lines : List Line) (starts more text now : List ℕ) (n start : ℕ) → AreKept lines starts text → n < length starts → start ≡ get_or starts n start → more ≡ take n starts → now ≡ take start text → AreKept (take n lines) more now
first_kept lines starts more text now n start kept below is first cut =
    let before : List ℕ = text_of (take n lines) in
    let parts : text ≡ before ++ text_of (drop n lines) = kept.whole ∙ ap text_of (sym (take-append-drop n lines)) ∙ text-append (take n lines) (drop n lines) in
    let place : start ≡ length before = get_or_read starts n start below is 0 ∙ kept.begins n below in
    let size : length more ≡ n = ap length first ∙ length-take-le n starts (omega arith) in
    record {
      count = size ∙ sym (length-take-le n lines (omega (arith, kept.count)));
      whole = cut ∙ ap (λ at. take at text) place ∙ ap (take (length before)) parts ∙ take-append_seam before (text_of (drop n lines));
      begins = λ i within.
          ap (λ ss. get_or ss i 0) first
          ∙ get_or-take n starts i 0 (omega (arith, size))
          ∙ kept.begins i (omega (arith, size))
          ∙ ap (λ ls. length (text_of ls)) (sym (take-take i n lines (omega (arith, size))));
    }

-- one more line, which begins after the text
pub more_kept : (lines : List Line) (line : Line) (starts more text now : List ℕ) (start : ℕ) → AreKept lines starts text → start ≡ length text → now ≡ text ++ line_of (reason_words line) → more ≡ starts ++ start ∷ [] → AreKept (lines ++ line ∷ []) more now
more_kept lines line starts more text now start kept begin written added =
    let size : length more ≡ length starts + 1 = ap length added ∙ length-append starts (start ∷ []) in
    let earlier : (i : ℕ) → i < length starts → get_or more i 0 ≡ length (text_of (take i (lines ++ line ∷ []))) =
    λ i below. ap (λ ss. get_or ss i 0) added
    ∙ get_or-append starts (start ∷ []) 0 i below
    ∙ kept.begins i below
    ∙ ap (λ ls. length (text_of ls)) (sym (take-append-le i lines (line ∷ []) (omega (arith, kept.count)))) in
    let last : get_or more (length starts) 0 ≡ length (text_of (take (length starts) (lines ++ line ∷ []))) =
    ap (λ ss. get_or ss (length starts) 0) added
    ∙ get_or-append_seam starts start [] 0
    ∙ begin
    ∙ ap length kept.whole
    ∙ ap (λ ls. length (text_of ls)) (sym (ap (λ n. take n (lines ++ line ∷ [])) kept.count ∙ take-append_seam lines (line ∷ []))) in
    record {
      count = omega (arith, size, kept.count, length-append lines (line ∷ []));
      whole = written
          ∙ ap (λ l. l ++ line_of (reason_words line)) kept.whole
          ∙ ap (λ l. text_of lines ++ l) (sym (text-one line))
          ∙ sym (text-append lines (line ∷ []));
      begins = λ i within. below_more (λ i. get_or more i 0 ≡ length (text_of (take i (lines ++ line ∷ [])))) (length starts) earlier last i (omega (arith, size));
    }

-- a start that there was room for is after the others
pub pushed : {E : Type 0} (r : Result (Unit {0}) E) (starts more : List ℕ) (start count room : ℕ) → more ≡ (if is_ok r then starts ++ start ∷ [] else starts) → OnErr r (room ≤ count) → count < room → more ≡ starts ++ start ∷ []
pushed (Ok x) starts more start count room added full less = added
pushed (Err e) starts more start count room added full less = absurd (omega arith)

-- ---- Lines that are added

-- none of them yet
pub none_added : (before all left : List Line) (next : Option Line) (starts text : List ℕ) → AreKept before starts text → option_to_list next ++ left ≡ all → AreAdded before all (option_to_list next) left starts text
none_added before all left next starts text kept are =
    record { added = []; kept = subst (λ ls. AreKept ls starts text) (sym (append-nil before)) kept; rest = sym are }

-- the line at hand is kept, and the next one is at hand
pub one_added : (before all lines left : List Line) (line : Line) (next : Option Line) (starts more text now : List ℕ) → AreAdded before all (line ∷ []) lines starts text
    → ((ls : List Line) → AreKept ls starts text → AreKept (ls ++ line ∷ []) more now) → option_to_list next ++ left ≡ lines → AreAdded before all (option_to_list next) left more now
one_added before all lines left line next starts more text now so step are = record {
  added = so.added ++ line ∷ [];
  kept = subst (λ ls. AreKept ls more now) (append_assoc before so.added (line ∷ [])) (step (before ++ so.added) so.kept);
  rest = so.rest ∙ ap (λ ls. so.added ++ line ∷ ls) (sym are) ∙ sym (append_assoc so.added (line ∷ []) (option_to_list next ++ left));
}

-- ---- The first lines of a certificate

-- where none is kept, they are the first of any
pub none_first : (certs : List Cert) (place : ℕ) (starts text : List ℕ) → AreKept [] starts text → AreFirst certs place starts text
none_first certs place starts text none =
    let zero_kept : length starts ≡ 0 = none.count in
    record {
      there = λ cert found. omega arith;
      first = λ cert found. subst (λ n. AreKept (take n cert.lines) starts text) (sym zero_kept) none;
    }

module _ (cert beside : Cert) (starts text kept_starts : List ℕ) (count : ℕ) (all next left : List Line)
    (begin : BeginWith cert.lines beside.lines count all) (few : count ≤ length kept_starts)
    (added : AreAdded (take count (take (length kept_starts) beside.lines)) all next left starts text) where
  abbrev before : List Line
  before = take count (take (length kept_starts) beside.lines)

  whole_is : cert.lines ≡ (before ++ added.added) ++ (next ++ left)
  whole_is =
      begin.whole
      ∙ ap (λ ls. ls ++ all) (sym (take-take count (length kept_starts) beside.lines few))
      ∙ ap (λ ls. before ++ ls) added.rest
      ∙ sym (append_assoc before added.added (next ++ left))

  -- the text of its lines
  pub turned_text : text_of cert.lines ≡ text ++ text_of (next ++ left)
  turned_text = ap text_of whole_is ∙ text-append (before ++ added.added) (next ++ left) ∙ ap (λ t. t ++ text_of (next ++ left)) (sym added.kept.whole)

  pub turned_there : length starts ≤ length cert.lines
  turned_there = omega (arith, added.kept.count, ap length whole_is, length-append (before ++ added.added) (next ++ left))

  -- they are its first lines
  pub turned_first : AreKept (take (length starts) cert.lines) starts text
  turned_first =
      let same : take (length starts) cert.lines ≡ before ++ added.added = ap (λ n. take n cert.lines) added.kept.count ∙ ap (take (length (before ++ added.added))) whole_is ∙ take-append_seam (before ++ added.added) (next ++ left) in
      subst (λ ls. AreKept ls starts text) (sym same) added.kept

-- ---- The line at hand, and those that are left

-- the next line, and those after it
pub next_left : (lines left : List Line) (next : Option Line) → next ≡ slice_get lines 0 → left ≡ drop 1 lines → option_to_list next ++ left ≡ lines
next_left [] left next found rest = rw (found, rest) refl
next_left (line ∷ lines) left next found rest = rw (found, rest) refl

-- nothing is after the last line
pub none_left : (lines left : List Line) (next : Option Line) → next ≡ slice_get lines 0 → left ≡ drop 1 lines → IfNone next (left ≡ [])
none_left [] left next found rest = rw found rest
none_left (line ∷ lines) left next found rest = rw found tt

-- the text of the line at hand, and of those after it
pub at_hand : (here next : Option Line) (lines left : List Line) (line : Line) → here ≡ Some line → option_to_list next ++ left ≡ lines → text_of (option_to_list here ++ lines) ≡ line_of (reason_words line) ++ text_of (option_to_list next ++ left)
at_hand here next lines left line is more = rw (is, more) refl

-- no line is at hand, so none is left
pub no_text : (here : Option Line) (lines : List Line) → here ≡ None → IfNone here (lines ≡ []) → text_of (option_to_list here ++ lines) ≡ []
no_text None lines is none = ap text_of none
no_text (Some line) lines is none = absurd (cc is)

-- the text of lines that two lists make
pub both_texts : (lines kept left : List Line) → lines ≡ kept ++ left → text_of lines ≡ text_of kept ++ text_of left
both_texts lines kept left are = ap text_of are ∙ text-append kept left
