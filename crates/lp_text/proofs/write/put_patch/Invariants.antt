use Rattle.std.proofs.Common.{map, drop}
use Rattle.std.specs.List.{flat_map}
use Rattle.lp_text.specs.Words.{line_of}
use Rattle.lp_text.specs.Traces.{patch_words, name}
use Rattle.lp_text.specs.inside.Writing.{Left, seen_of}
use Rattle.lp_text.proofs.write.put_patch.Given as goal

abbrev pub invariant-loop-func : goal.invariant-loop-func
invariant-loop-func g l =
    Left (seen_of g.W.Write.contents l.fn.writer) (seen_of g.W.Write.contents l.writer) (flat_map line_of (map (λ func. patch_words l.fn.form l.fn.number (name l.fn.symbols func)) l.fn.patch)) (flat_map line_of (map (λ func. patch_words l.fn.form l.fn.number (name l.fn.symbols func)) (drop l.func-index l.fn.patch)))
