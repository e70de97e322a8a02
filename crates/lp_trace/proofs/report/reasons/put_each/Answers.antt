use Rattle.std.proofs.Common.{◌≡◌, ◌++◌, ◌∙◌, List, None, ℕ, ap, arith, length, option_to_list, refl, subst, sym}
use Rattle.std.proofs.lemmas.Bool.{eqb-true}
use Rattle.lp_cert.specs.Parts.{busy_scan_lines}
use Rattle.lp_text.specs.CertTexts.{reason_words}
use Rattle.lp_text.specs.Words.{line_of}
use Rattle.lp_text.specs.inside.Writing.{Left, seen_of}
use Rattle.lp_trace.specs.inside.KeptLines.{text_of}
use Rattle.lp_trace.proofs.Busy.{scans_end}
use Rattle.lp_trace.proofs.KeptLines.{at_hand, both_texts, next_left, no_text, none_left}
use Rattle.lp_trace.proofs.Pages.{puts_err, held_end, held_err, held_next, held_start, only_held}
use Rattle.lp_trace.proofs.report.reasons.put_each.Goals as goal
use Rattle.lp_trace.proofs.report.reasons.put_each.Goals.{then-not-hold_reason+in_ok-put_reason, else-not-hold_reason, then-not-is_empty+in_ok-put_scans, else-not-is_empty}

pub loop-next-preserved : goal.loop-next-preserved
loop-next-preserved g c =
    let line : List ℕ = line_of (reason_words c.in-Some.reason) in
    let first : Left (seen_of g.W.Write.contents c.loop-next.writer) (seen_of g.W.Write.contents c.if-not-hold_reason.writer) (c.loop-next.page.held.items ++ line) c.if-not-hold_reason.page.held.items = elim c.if-not-hold_reason.branch [
      | then-not-hold_reason+in_ok-put_reason w ↦ rw (w.page-is, w.writer-is, ← w.if-not-hold_reason.ensures.kept refl) w.in_ok-put_reason.ensures
      | else-not-hold_reason w ↦ rw (w.page-is, w.writer-is) (only_held _ _ _ line (w.if-not-hold_reason.ensures.taken refl))
    ] in
    let here = held_next _ (seen_of g.W.Write.contents c.loop-next.writer) _ _ c.loop-next.page.held.items line _ (text_of c.loop-next.reasons) c.if-not-hold_reason.page.held.items (at_hand c.loop-next.next None c.loop-next.reasons c.loop-next.reasons c.in-Some.reason c.in-Some.is refl) c.loop-next.invariant.0 first in
    let run : List ℕ = text_of (busy_scan_lines c.take_run-run.result) in
    let left = c.take_run-run.new.self in
    let held : List ℕ = c.if-not-hold_reason.page.held.items in
    let more : Left (seen_of g.W.Write.contents c.if-not-hold_reason.writer) (seen_of g.W.Write.contents c.if-not-is_empty.writer) (held ++ run) c.if-not-is_empty.page.held.items = elim c.if-not-is_empty.branch [
      | then-not-is_empty+in_ok-put_scans w ↦ rw (w.page-is, w.writer-is) w.in_ok-put_scans.ensures
      | else-not-is_empty w ↦
          let busy = c.take_run-run.result in
          let none : length busy.scans.now ≡ 0 = eqb-true (length busy.scans.now) 0 (sym w.if-not-is_empty.ensures) in
          rw (w.page-is, w.writer-is) (held_end _ (seen_of g.W.Write.contents c.if-not-hold_reason.writer) (held ++ run) held run (scans_end busy.group busy.task busy.scans.now 0 (omega arith)) (held_start _ (held ++ run)))
    ] in
    let rest : text_of c.loop-next.reasons ≡ run ++ text_of (option_to_list c.next-next.result ++ c.next-next.new.self) =
    both_texts _ (busy_scan_lines c.take_run-run.result) left c.take_run-run.ensures ∙ ap (λ ls. run ++ text_of ls) (sym (next_left left c.next-next.new.self c.next-next.result c.next-next.ensures.line c.next-next.ensures.left)) in (
      held_next _ (seen_of g.W.Write.contents c.if-not-hold_reason.writer) _ _ held run _ _ c.if-not-is_empty.page.held.items rest here more,
      none_left left c.next-next.new.self c.next-next.result c.next-next.ensures.line c.next-next.ensures.left,
    )

pub returns-in_err-put_scans : goal.returns-in_err-put_scans
returns-in_err-put_scans g c =
    let line : List ℕ = line_of (reason_words c.in-Some.reason) in
    let first : Left (seen_of g.W.Write.contents c.loop-next.writer) (seen_of g.W.Write.contents c.if-not-hold_reason.writer) (c.loop-next.page.held.items ++ line) c.if-not-hold_reason.page.held.items = elim c.if-not-hold_reason.branch [
      | then-not-hold_reason+in_ok-put_reason w ↦ rw (w.page-is, w.writer-is, ← w.if-not-hold_reason.ensures.kept refl) w.in_ok-put_reason.ensures
      | else-not-hold_reason w ↦ rw (w.page-is, w.writer-is) (only_held _ _ _ line (w.if-not-hold_reason.ensures.taken refl))
    ] in
    let here = held_next _ (seen_of g.W.Write.contents c.loop-next.writer) _ _ c.loop-next.page.held.items line _ (text_of c.loop-next.reasons) c.if-not-hold_reason.page.held.items (at_hand c.loop-next.next None c.loop-next.reasons c.loop-next.reasons c.in-Some.reason c.in-Some.is refl) c.loop-next.invariant.0 first in
    let run : List ℕ = text_of (busy_scan_lines c.take_run-run.result) in
    puts_err _ _ c.args.page.now.held.items _ _ c.from_residual-in_err-put_scans.result c.from_residual-in_err-put_scans.ensures.0 (held_err _ (seen_of g.W.Write.contents c.if-not-hold_reason.writer) _ _ c.if-not-hold_reason.page.held.items run _ _ (both_texts _ (busy_scan_lines c.take_run-run.result) c.take_run-run.new.self c.take_run-run.ensures) here c.in_err-put_scans.ensures)

pub returns-in_err-put_reason : goal.returns-in_err-put_reason
returns-in_err-put_reason g c =
    let P : List ℕ → Type 0 = λ h. Left (seen_of g.W.Write.contents c.args.writer.now) (seen_of g.W.Write.contents c.loop-next.writer) (c.args.page.now.held.items ++ text_of (option_to_list c.args.first ++ c.args.reasons.now)) (h ++ text_of (option_to_list c.loop-next.next ++ c.loop-next.reasons)) in
    puts_err _ _ c.args.page.now.held.items _ _ c.from_residual.result c.from_residual.ensures.0 (held_err _ (seen_of g.W.Write.contents c.loop-next.writer) _ _ c.hold_reason.new.held.items _ _ _ (at_hand c.loop-next.next None c.loop-next.reasons c.loop-next.reasons c.in-Some.reason c.in-Some.is refl) (subst P (sym {A = List ℕ} (c.if-not-hold_reason.ensures.kept refl)) c.loop-next.invariant.0) c.in_err-put_reason.ensures)

pub returns : goal.returns
returns g c =
    held_end (seen_of g.W.Write.contents c.args.writer.now) (seen_of g.W.Write.contents c.loop-next.writer) _ c.loop-next.page.held.items _ (no_text c.loop-next.next c.loop-next.reasons c.in_default.is c.loop-next.invariant.1) c.loop-next.invariant.0
