use Rattle.std.proofs.Common.{drop, ◌+◌}
use Rattle.std.specs.List.{flat_map}
use Rattle.lp_text.specs.Words.{line_of}
use Rattle.lp_text.specs.Traces.{patch_lines, functions}
use Rattle.lp_text.specs.inside.Writing.{Left, seen_of}
use Rattle.lp_text.proofs.write.put_patches.Given as goal

abbrev pub invariant-loop-i : goal.invariant-loop-i
invariant-loop-i g l =
    Left (seen_of g.W.Write.contents l.fn.writer) (seen_of g.W.Write.contents l.writer) (flat_map line_of (patch_lines l.fn.form l.fn.symbols 1 (functions l.fn.patches))) (flat_map line_of (patch_lines l.fn.form l.fn.symbols (l.i + 1) (functions (drop l.i l.fn.patches))))
