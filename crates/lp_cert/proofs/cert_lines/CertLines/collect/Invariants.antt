use Rattle.std.proofs.Common.{◌≡◌, ◌++◌, length}
use Rattle.lp_cert.proofs.cert_lines.CertLines.collect.Given as goal

-- the lines so far, and those that are left
abbrev pub invariant-loop-line : goal.invariant-loop-line
invariant-loop-line l = l.lines.items ++ l.self ≡ l.fn.self

abbrev pub decreases-loop-line : goal.decreases-loop-line
decreases-loop-line l = length l.self
