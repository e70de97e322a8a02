use Rattle.std.proofs.Common.{◌≡◌, ◌++◌, List, ℕ, drop}
use Rattle.std.specs.List.{flat_map}
use Rattle.lp_text.specs.CertTexts.{cert_lines}
use Rattle.lp_text.specs.Words.{line_of}
use Rattle.lp_trace.proofs.report.legs.hold_certs.Given as goal

-- what is held so far, and the lines of the certificates that are left
abbrev pub invariant-loop-place : goal.invariant-loop-place
invariant-loop-place l =
    (done : List ℕ)
    × (l.held.items ≡ l.fn.held.items ++ done)
    × (flat_map line_of (flat_map cert_lines l.certs) ≡ done ++ flat_map line_of (flat_map cert_lines (drop l.place l.certs)))
