use Rattle.std.proofs.Common.{◌≡◌, drop}
use Rattle.lp_checker.proofs.Strays.{strays}
use Rattle.lp_checker.proofs.groups.has_stray.Given as goal

-- the lines so far are of their sections
abbrev pub invariant-loop-line : goal.invariant-loop-line
invariant-loop-line l = strays l.fn.first.0 l.fn.lines ≡ strays l.section.0 (drop l.line-index l.fn.lines)
