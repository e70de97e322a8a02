use Rattle.std.specs.List.{flat_map}
use Rattle.std.proofs.lemmas.List.{at_drop_all}
use Rattle.lp_definitions.specs.declared.cert.Cert.{Cert}
use Rattle.lp_text.specs.CertTexts.{cert_lines}
use Rattle.lp_text.specs.Words.{line_of}
use Rattle.lp_trace.proofs.KeptLines.{none_first}
use Rattle.lp_trace.proofs.Pages.{puts_err, held_err, held_end, held_next, held_start, only_held}
use Rattle.lp_trace.proofs.Reports.{block_of}
use Rattle.std.proofs.Common.{◌<◌, ◌≤◌, ◌++◌, ℕ, List, drop, length, refl, subst, sym, arith}
use Rattle.lp_text.specs.inside.Writing.{Left, seen_of}
use Rattle.lp_trace.proofs.report.legs.put_certs.Goals as goal
use Rattle.lp_trace.proofs.report.legs.put_certs.Goals.{then-not-hold_cert+in_ok-put_cert, else-not-hold_cert}

pub loop-place-init : goal.loop-place-init
loop-place-init g c = record {
  text = held_start _ _;
  earlier = omega (arith, c.clear.ensures.place);
  first = none_first c.args.certs.now _ _ _ c.clear.ensures.none;
}

pub returns-in_err-put_cert : goal.returns-in_err-put_cert
returns-in_err-put_cert g c =
    let below : c.loop-place.place < length c.args.certs.now = omega arith in
    let found = block_of cert_lines c.args.certs.now c.loop-place.place below in
    let P : List ℕ → Type 0 = λ h. Left (seen_of g.W.Write.contents c.args.writer.now) (seen_of g.W.Write.contents c.loop-place.writer) (c.args.page.now.held.items ++ flat_map line_of (flat_map cert_lines c.args.certs.now)) (h ++ flat_map line_of (flat_map cert_lines (drop c.loop-place.place c.args.certs.now))) in
    puts_err _ _ c.args.page.now.held.items _ _ c.from_residual.result c.from_residual.ensures.0 (held_err _ (seen_of g.W.Write.contents c.loop-place.writer) _ _ c.hold_cert.new.held.items _ _ _ found.2 (subst P (sym {A = List ℕ} (c.if-not-hold_cert.ensures.kept refl)) c.loop-place.invariant.text) (c.in_err-put_cert.ensures.text found.0 found.1))

pub loop-place-preserved : goal.loop-place-preserved
loop-place-preserved g c =
    let below : c.loop-place.place < length c.args.certs.now = omega arith in
    let found = block_of cert_lines c.args.certs.now c.loop-place.place below in
    let lines : List ℕ = flat_map line_of (cert_lines found.0) in
    let first : Left (seen_of g.W.Write.contents c.loop-place.writer) (seen_of g.W.Write.contents c.if-not-hold_cert.writer) (c.loop-place.page.held.items ++ lines) c.if-not-hold_cert.page.held.items = elim c.if-not-hold_cert.branch [
      | then-not-hold_cert+in_ok-put_cert w ↦ rw (w.page-is, w.writer-is, ← w.if-not-hold_cert.ensures.kept refl) (w.in_ok-put_cert.ensures.text found.0 found.1)
      | else-not-hold_cert w ↦ rw (w.page-is, w.writer-is) (only_held _ _ _ lines (w.if-not-hold_cert.ensures.taken refl found.0 found.1))
    ] in
    record {
      text = held_next _ (seen_of g.W.Write.contents c.loop-place.writer) _ _ c.loop-place.page.held.items lines _ _ c.if-not-hold_cert.page.held.items found.2 c.loop-place.invariant.text first;
      earlier = elim c.if-not-hold_cert.branch [
        | then-not-hold_cert+in_ok-put_cert w ↦ rw w.kept-is (omega (arith, w.in_ok-put_cert.ensures.earlier))
        | else-not-hold_cert w ↦ rw w.kept-is (omega (arith, c.loop-place.invariant.earlier))
      ];
      first = elim c.if-not-hold_cert.branch [
        | then-not-hold_cert+in_ok-put_cert w ↦ rw w.kept-is w.in_ok-put_cert.ensures.first
        | else-not-hold_cert w ↦ rw w.kept-is c.loop-place.invariant.first
      ];
    }

pub returns : goal.returns
returns g c =
    let over : length c.args.certs.now ≤ c.loop-place.place = omega arith in
    let none = at_drop_all (λ (certs : List Cert). flat_map line_of (flat_map cert_lines certs)) c.args.certs.now c.loop-place.place over in
    held_end (seen_of g.W.Write.contents c.args.writer.now) (seen_of g.W.Write.contents c.loop-place.writer) _ c.loop-place.page.held.items _ none c.loop-place.invariant.text
