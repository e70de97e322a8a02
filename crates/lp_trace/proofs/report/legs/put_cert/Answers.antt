use Rattle.std.proofs.Common.{◌≡◌, ◌++◌, List, ℕ, Some, ap, sym, subst, refl, ◌∙◌}
use Rattle.std.specs.List.{flat_map}
use Rattle.std.specs.Option.{option_map}
use Rattle.lp_cert.specs.Ends.{cert_head}
use Rattle.lp_text.specs.CertTexts.{cert_lines}
use Rattle.lp_text.specs.Words.{line_of}
use Rattle.lp_text.specs.inside.Writing.{Left, TakesPrefix, seen_of}
use Rattle.lp_trace.specs.inside.KeptLines.{text_of}
use Rattle.lp_trace.specs.inside.Claims.{head_words}
use Rattle.lp_trace.proofs.Claims.{cert_text}
use Rattle.lp_trace.proofs.Pages.{puts_along, puts_err, puts_both, held_prefix, only_held}
use Rattle.lp_trace.proofs.report.legs.put_cert.Goals as goal
use Rattle.lp_trace.proofs.report.legs.put_cert.Goals.{then-not-hold_claim+in_ok-put_claim, else-not-hold_claim}

pub returns-in_err-put_claim-clause-text : goal.returns-in_err-put_claim-clause-text
returns-in_err-put_claim-clause-text g c = λ cert found.
    let claim : List ℕ = line_of (head_words c.head-head.result) in
    let reasons : List ℕ = text_of cert.lines in
    let head : Some (cert_head cert) ≡ Some c.head-head.result = sym (ap (option_map cert_head) found) ∙ c.head-head.ensures in
    let P : List ℕ → Type 0 = λ h. TakesPrefix (seen_of g.W.Write.contents c.args.writer.now) (seen_of g.W.Write.contents c.put_claim.new.writer) (h ++ claim) in
    puts_err (seen_of g.W.Write.contents c.args.writer.now) (seen_of g.W.Write.contents c.put_claim.new.writer) c.args.page.now.held.items c.put_claim.new.page.held.items _ c.from_residual.result c.from_residual.ensures.0 (held_prefix _ _ c.args.page.now.held.items claim reasons (flat_map line_of (cert_lines cert)) (cert_text cert c.head-head.result cert.lines head refl) (subst P (c.if-not-hold_claim.ensures.kept refl) c.in_err-put_claim.ensures))

pub returns-clause-text : goal.returns-clause-text
returns-clause-text g c = λ cert found.
    let claim : List ℕ = line_of (head_words c.head-head.result) in
    let reasons : List ℕ = text_of cert.lines in
    let head : Some (cert_head cert) ≡ Some c.head-head.result = sym (ap (option_map cert_head) found) ∙ c.head-head.ensures in
    let first : Left (seen_of g.W.Write.contents c.args.writer.now) (seen_of g.W.Write.contents c.if-not-hold_claim.writer) (c.args.page.now.held.items ++ claim) c.if-not-hold_claim.page.held.items = elim c.if-not-hold_claim.branch [
      | then-not-hold_claim+in_ok-put_claim w ↦ rw (w.page-is, w.writer-is, ← w.if-not-hold_claim.ensures.kept refl) w.in_ok-put_claim.ensures
      | else-not-hold_claim w ↦ rw (w.page-is, w.writer-is) (only_held _ _ _ claim (w.if-not-hold_claim.ensures.taken refl))
    ] in
    puts_along (seen_of g.W.Write.contents c.args.writer.now) (seen_of g.W.Write.contents c.put_reasons.new.writer) c.args.page.now.held.items _ _ _ c.put_reasons.result (sym (cert_text cert c.head-head.result cert.lines head refl)) (puts_both (seen_of g.W.Write.contents c.args.writer.now) (seen_of g.W.Write.contents c.if-not-hold_claim.writer) (seen_of g.W.Write.contents c.put_reasons.new.writer) c.args.page.now.held.items c.if-not-hold_claim.page.held.items c.put_reasons.new.page.held.items claim reasons c.put_reasons.result first (c.put_reasons.ensures.text cert found))
