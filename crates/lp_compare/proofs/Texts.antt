-- Texts, line by line, and JSON without floats.
use Rattle.std.proofs.Common.{◌≡◌, ◌≤◌, ℕ, false, List, [], ◌∷◌, ◌++◌, Bor, map, length, drop, Option, Some, None, codes, refl, sym, ap, ap₂, ◌∙◌, append_assoc}
use Rattle.std.specs.List.{flat_map}
use Rattle.serde_json.specs.Written.{has_float, items_have_float}
use Rattle.serde_json.specs.View.{items_of}
use Rattle.lp_text.specs.Words.{line_of}
use Rattle.lp_text.specs.inside.Writing.{line_rest}
use Rattle.lp_text.proofs.Writing.{line_split, rest_end}
use Rattle.lp_compare.specs.declared.comparison.Comparison.{Comparison}
use Rattle.lp_compare.specs.declared.comparison.Row.{Row}
use Rattle.lp_compare.specs.Text.{event_data, row_data, data_of, leg_word, row_words, text}

-- ---- Lines

-- a line, with its last byte
pub line_end : (old now first : List ℕ) (words : List (Bor (List ℕ))) (i : ℕ) → length words ≤ i
    → now ++ line_rest (map (λ word. word.now) (drop i words)) ≡ (old ++ first) ++ line_rest (map (λ word. word.now) words)
    → now ++ 10 ∷ [] ≡ old ++ line_of (first ∷ map (λ word. word.now) words)
line_end old now first words i all so_far =
    ap (λ rest. now ++ rest) (sym (rest_end words i all))
    ∙ (so_far
    ∙ (append_assoc old first (line_rest (map (λ word. word.now) words)) ∙ ap (λ line. old ++ line) (sym (line_split first (map (λ word. word.now) words)))))

-- a text put together from its parts
pub text_is : (found : Comparison) (none header with_leg whole word : List ℕ) (rows : List Row)
    → none ≡ [] → header ≡ none ++ line_of (codes "lpcompare" ∷ codes "1" ∷ [])
    → word ≡ leg_word found.leg → with_leg ≡ header ++ line_of (codes "leg" ∷ word ∷ [])
    → rows ≡ found.rows → whole ≡ with_leg ++ flat_map line_of (map (row_words found.leg) rows)
    → whole ≡ text found
unfolding text
text_is found none header with_leg whole word rows none_is header_is word_is with_leg_is rows_are whole_is =
    whole_is
    ∙ (ap₂ (λ bytes rs. bytes ++ flat_map line_of (map (row_words found.leg) rs))
    (with_leg_is ∙ ap₂ (λ bytes w. bytes ++ line_of (codes "leg" ∷ w ∷ [])) (header_is ∙ ap (λ bytes. bytes ++ line_of (codes "lpcompare" ∷ codes "1" ∷ [])) none_is) word_is) rows_are
    ∙ append_assoc (line_of (codes "lpcompare" ∷ codes "1" ∷ [])) (line_of (codes "leg" ∷ leg_word found.leg ∷ [])) (flat_map line_of (map (row_words found.leg) found.rows)))

-- ---- Floats

event_no_float : (event : Option ℕ) → has_float (event_data event) ≡ false
event_no_float None = refl
event_no_float (Some event) = refl

row_no_float : (row : Row) → has_float (row_data row) ≡ false
row_no_float row = rw (event_no_float row.complete) refl

rows_no_float : (rows : List Row) → items_have_float (items_of (map row_data rows)) ≡ false
rows_no_float [] = refl
rows_no_float (row ∷ rows) = rw (row_no_float row, rows_no_float rows) refl

-- a comparison has no float
pub no_float : (found : Comparison) → has_float (data_of found) ≡ false
no_float found = rw (event_no_float found.leg, rows_no_float found.rows) refl
