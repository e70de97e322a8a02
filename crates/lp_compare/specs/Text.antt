-- A comparison as a text, and as JSON (RFC 8259).
use Rattle.std.specs.Prelude.{ℕ, Bool, List, [], ◌∷◌, ◌++◌, map, Option, Some, None, decimal, codes, if◌then◌else◌}
use Rattle.std.specs.List.{flat_map}
use Rattle.serde_json.specs.Data.{Data, null, number, unsigned, string, array, object, member, no_members}
use Rattle.serde_json.specs.View.{items_of}
use Rattle.serde_json.specs.Written.{compact_text}
use Rattle.lp_models.specs.Models.{name_of}
use Rattle.lp_text.specs.Words.{line_of}
use Rattle.lp_text.specs.CertTexts.{end_words}
use Rattle.lp_compare.specs.declared.comparison.Comparison.{Comparison}
use Rattle.lp_compare.specs.declared.comparison.Row.{Row}

-- ---- The text, line by line, each as its words

-- the event that opened the leg
abbrev pub leg_word : Option ℕ → List ℕ
leg_word None = codes "none"
leg_word (Some event) = decimal event

-- a model's row: where the leg completed under it, or who waits at its end; nothing where there is no leg
abbrev pub row_words : Option ℕ → Row → List (List ℕ)
row_words None row = name_of row.model ∷ codes "none" ∷ []
row_words (Some event) row = name_of row.model ∷ end_words row.complete row.waiting ++ codes "births" ∷ decimal row.births ∷ []

abbrev pub text_lines : Comparison → List (List (List ℕ))
text_lines found =
    (codes "lpcompare" ∷ codes "1" ∷ []) ∷ (codes "leg" ∷ leg_word found.leg ∷ []) ∷ map (row_words found.leg) found.rows

unfoldable pub text : Comparison → List ℕ
text found = flat_map line_of (text_lines found)

-- ---- JSON: compact, keys in alphabetical order, and a line end

abbrev pub event_data : Option ℕ → Data
event_data None = null
event_data (Some event) = number (unsigned event)

abbrev pub row_data : Row → Data
row_data row =
    object (member (codes "births") (number (unsigned row.births))
    (member (codes "complete") (event_data row.complete)
    (member (codes "model") (string (name_of row.model))
    (member (codes "waiting") (number (unsigned row.waiting)) no_members))))

abbrev pub data_of : Comparison → Data
data_of found =
    object (member (codes "leg") (event_data found.leg)
    (member (codes "models") (array (items_of (map row_data found.rows)))
    (member (codes "version") (number (unsigned 1)) no_members)))

unfoldable pub json : Comparison → List ℕ
json found = compact_text (data_of found) ++ 10 ∷ []

-- ---- The one that is asked for

abbrev pub written : Bool → Comparison → List ℕ
written as_json found = if as_json then json found else text found
