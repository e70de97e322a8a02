use Rattle.std.proofs.Common.{◌≡◌, ◌++◌, string_bytes, map, drop}
use Rattle.std.specs.List.{flat_map}
use Rattle.lp_text.specs.Words.{line_of}
use Rattle.lp_compare.specs.Text.{row_words}
use Rattle.lp_compare.proofs.text.push_rows.Given as goal

abbrev pub invariant-loop-row : goal.invariant-loop-row
invariant-loop-row l = string_bytes l.text ++ flat_map line_of (map (row_words l.leg) (drop l.row-index l.rows)) ≡ string_bytes l.fn.text ++ flat_map line_of (map (row_words l.leg) l.rows)
