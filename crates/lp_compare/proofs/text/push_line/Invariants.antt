use Rattle.std.proofs.Common.{◌≡◌, ◌++◌, string_bytes, map, drop}
use Rattle.lp_text.specs.inside.Writing.{line_rest}
use Rattle.lp_compare.proofs.text.push_line.Given as goal

abbrev pub invariant-loop-word : goal.invariant-loop-word
invariant-loop-word l = string_bytes l.text ++ line_rest (map (λ word. word.now) (drop l.word-index l.words)) ≡ (string_bytes l.fn.text ++ l.first) ++ line_rest (map (λ word. word.now) l.words)
