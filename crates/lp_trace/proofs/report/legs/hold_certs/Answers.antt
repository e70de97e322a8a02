use Rattle.std.proofs.Common.{◌<◌, ◌≤◌, ◌++◌, ◌∙◌, ℕ, List, [], ap, append_assoc, arith, length, refl, sym, take}
use Rattle.std.specs.List.{flat_map}
use Rattle.std.proofs.lemmas.List.{append-nil, at_drop_all, take_at}
use Rattle.lp_definitions.specs.declared.cert.Cert.{Cert}
use Rattle.lp_text.specs.CertTexts.{cert_lines}
use Rattle.lp_text.specs.Words.{line_of}
use Rattle.lp_trace.proofs.Reports.{block_of}
use Rattle.lp_trace.proofs.report.legs.hold_certs.Goals as goal

pub loop-place-init : goal.loop-place-init
loop-place-init c = ([], sym (append-nil c.args.held.now.items), refl)

pub loop-place-preserved : goal.loop-place-preserved
loop-place-preserved c =
    let below : c.loop-place.place < length c.args.certs.now = omega arith in
    let found = block_of cert_lines c.args.certs.now c.loop-place.place below in
    let lines : List ℕ = flat_map line_of (cert_lines found.0) in
    let so_far = c.loop-place.invariant in (
      so_far.0 ++ lines,
      c.hold_cert.ensures.taken c.if-not-hold_cert.false found.0 found.1 ∙ ap (λ l. l ++ lines) so_far.1 ∙ append_assoc c.args.held.now.items so_far.0 lines,
      so_far.2 ∙ ap (λ l. so_far.0 ++ l) found.2 ∙ sym (append_assoc so_far.0 lines _),
    )

pub returns-then-not-hold_cert-clause-kept : goal.returns-then-not-hold_cert-clause-kept
returns-then-not-hold_cert-clause-kept c = λ _.
    c.truncate.ensures
    ∙ ap (take c.len-start.result) (c.hold_cert.ensures.kept c.if-not-hold_cert.true ∙ c.loop-place.invariant.1)
    ∙ take_at c.args.held.now.items c.loop-place.invariant.0 c.len-start.result (sym c.len-start.ensures)

pub returns-clause-taken : goal.returns-clause-taken
returns-clause-taken c = λ _.
    let over : length c.args.certs.now ≤ c.loop-place.place = omega arith in
    let none = at_drop_all (λ (certs : List Cert). flat_map line_of (flat_map cert_lines certs)) c.args.certs.now c.loop-place.place over in
    let so_far = c.loop-place.invariant in
    so_far.1 ∙ ap (λ l. c.args.held.now.items ++ l) (sym (so_far.2 ∙ ap (λ l. so_far.0 ++ l) none ∙ append-nil so_far.0))
