use Rattle.std.proofs.Common.{◌<◌, All, length}
use Rattle.lp_checker.proofs.marks.looks_at.Given as goal

-- each look is at a line
abbrev pub invariant-loop-i : goal.invariant-loop-i
invariant-loop-i l = All (λ look. look.line < length l.fn.lines) l.looks.items
