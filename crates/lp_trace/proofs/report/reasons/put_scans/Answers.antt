use Rattle.std.proofs.Common.{◌++◌, List, ℕ, drop, map, refl, subst, sym, arith}
use Rattle.lp_definitions.specs.declared.line.Line.TheVariants.{Busy}
use Rattle.lp_cert.specs.Parts.{busy_scan_lines}
use Rattle.lp_text.specs.CertTexts.{reason_words}
use Rattle.lp_text.specs.Words.{line_of}
use Rattle.lp_text.specs.inside.Writing.{Left, seen_of}
use Rattle.lp_trace.specs.inside.KeptLines.{text_of}
use Rattle.lp_trace.proofs.Busy.{scans_at, scans_end}
use Rattle.lp_trace.proofs.Pages.{puts_err, held_end, held_err, held_next, only_held}
use Rattle.lp_trace.proofs.report.reasons.put_scans.Goals as goal
use Rattle.lp_trace.proofs.report.reasons.put_scans.Goals.{then-not-hold+in_ok-put_reason, else-not-hold}

pub loop-scan-preserved : goal.loop-scan-preserved
loop-scan-preserved g c =
    let run = c.args.run in
    let i = c.loop-scan.scan-index in
    let line : List ℕ = line_of (reason_words (Busy run.group run.task c.from-at.result)) in
    let first : Left (seen_of g.W.Write.contents c.loop-scan.writer) (seen_of g.W.Write.contents c.if-not-hold.writer) (c.loop-scan.page.held.items ++ line) c.if-not-hold.page.held.items = elim c.if-not-hold.branch [
      | then-not-hold+in_ok-put_reason w ↦ rw (w.page-is, w.writer-is, ← w.if-not-hold.ensures.kept refl) w.in_ok-put_reason.ensures
      | else-not-hold w ↦ rw (w.page-is, w.writer-is) (only_held _ _ _ line (w.if-not-hold.ensures.taken refl))
    ] in
    held_next _ (seen_of g.W.Write.contents c.loop-scan.writer) _ _ c.loop-scan.page.held.items line _ _ c.if-not-hold.page.held.items (scans_at run.group run.task run.scans.now i c.from-at.result c.loop-scan-test.true c.from-at.ensures) c.loop-scan.invariant first

pub returns-in_err-put_reason : goal.returns-in_err-put_reason
returns-in_err-put_reason g c =
    let run = c.args.run in
    let i = c.loop-scan.scan-index in
    let P : List ℕ → Type 0 = λ h. Left (seen_of g.W.Write.contents c.args.writer.now) (seen_of g.W.Write.contents c.loop-scan.writer) (c.args.page.now.held.items ++ text_of (busy_scan_lines run)) (h ++ text_of (map (Busy run.group run.task) (drop i run.scans.now))) in
    puts_err _ _ c.args.page.now.held.items _ _ c.from_residual.result c.from_residual.ensures.0 (held_err _ (seen_of g.W.Write.contents c.loop-scan.writer) _ _ c.hold.new.held.items _ _ _ (scans_at run.group run.task run.scans.now i c.from-at.result c.loop-scan-test.true c.from-at.ensures) (subst P (sym {A = List ℕ} (c.if-not-hold.ensures.kept refl)) c.loop-scan.invariant) c.in_err-put_reason.ensures)

pub returns : goal.returns
returns g c =
    held_end (seen_of g.W.Write.contents c.args.writer.now) (seen_of g.W.Write.contents c.loop-scan.writer) _ c.loop-scan.page.held.items _ (scans_end c.args.run.group c.args.run.task c.args.run.scans.now c.loop-scan.scan-index (omega arith)) c.loop-scan.invariant
