use Rattle.std.proofs.Common.{◌++◌, ◌≤◌, drop}
use Rattle.std.specs.List.{flat_map}
use Rattle.lp_text.specs.CertTexts.{cert_lines}
use Rattle.lp_text.specs.Words.{line_of}
use Rattle.lp_text.specs.inside.Writing.{Left, seen_of}
use Rattle.lp_trace.specs.inside.KeptLines.{AreFirst}
use Rattle.lp_trace.proofs.report.legs.put_certs.Given as goal

-- the lines of the certificates that are left, and what is kept of an earlier one
abbrev pub invariant-loop-place : goal.invariant-loop-place
invariant-loop-place g l = record {
  text : Left (seen_of g.W.Write.contents l.fn.writer) (seen_of g.W.Write.contents l.writer) (l.fn.page.held.items ++ flat_map line_of (flat_map cert_lines l.fn.certs)) (l.page.held.items ++ flat_map line_of (flat_map cert_lines (drop l.place l.fn.certs)));
  earlier : l.kept.place ≤ l.place;
  first : AreFirst l.fn.certs l.kept.place l.kept.starts.items l.kept.text.items;
}
