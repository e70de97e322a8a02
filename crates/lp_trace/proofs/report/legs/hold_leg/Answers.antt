use Rattle.std.proofs.Common.{◌++◌, ◌∙◌, List, ℕ, ap, append_assoc, take, sym}
use Rattle.std.specs.List.{flat_map}
use Rattle.std.proofs.lemmas.List.{take_at}
use Rattle.lp_cert.specs.Ends.{end_in}
use Rattle.lp_text.specs.CertTexts.{cert_lines}
use Rattle.lp_text.specs.Words.{line_of}
use Rattle.lp_trace.specs.Report.{leg_line}
use Rattle.lp_trace.proofs.report.legs.hold_leg.Goals as goal

pub returns-then-hold_certs-clause-taken : goal.returns-then-hold_certs-clause-taken
returns-then-hold_certs-clause-taken c = λ _.
    let old : List ℕ = c.args.held.now.items in
    let line : List ℕ = line_of (leg_line c.args.form (end_in c.args.leg.now)) in
    let certs : List ℕ = flat_map line_of (flat_map cert_lines c.args.leg.now.certs) in
    c.hold_certs.ensures.taken c.if-hold_certs.true
    ∙ ap (λ l. l ++ certs) (c.hold_end.ensures.taken c.if-not-hold_end.false)
    ∙ append_assoc old line certs

pub returns-clause-kept : goal.returns-clause-kept
returns-clause-kept c = λ _.
    let old : List ℕ = c.args.held.now.items in
    let line : List ℕ = line_of (leg_line c.args.form (end_in c.args.leg.now)) in
    c.truncate.ensures
    ∙ ap (take c.len-start.result) (c.hold_certs.ensures.kept c.if-hold_certs.false ∙ c.hold_end.ensures.taken c.if-not-hold_end.false)
    ∙ take_at old line c.len-start.result (sym c.len-start.ensures)
