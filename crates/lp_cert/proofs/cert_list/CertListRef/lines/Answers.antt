use Rattle.std.proofs.Common.{Some, sym, ap, ◌∙◌}
use Rattle.std.specs.Option.{option_map}
use Rattle.lp_definitions.specs.declared.cert.Cert.{Cert}
use Rattle.lp_cert.specs.inside.Kept.{certs_borrowed}
use Rattle.lp_cert.proofs.Bare.{none_has_lines}
use Rattle.lp_cert.proofs.KeptCerts.{cert_at, known_at}
use Rattle.lp_cert.proofs.cert_list.CertListRef.lines.Goals as goal

pub returns-in-Bare : goal.returns-in-Bare
returns-in-Bare c =
    none_has_lines c.args.self.now c.in-Bare.field-0 c.in-Bare.field-1.now c.args.place (sym c.self.view_is ∙ ap certs_borrowed c.in-Bare.is) c.requires
    ∙ ap Some (sym c.none.ensures)

pub lines-requires : goal.lines-requires
lines-requires c =
    let i = c.many.inside in
    let certs = c.many.view_is ∙ (ap certs_borrowed (sym c.in-Many.is) ∙ c.self.view_is) in
    rw c.as_slice.ensures.value (known_at i.head.claim i.head.leg i.head.upto i.chains.lists i.scans.items i.waiters.items c.args.self.now certs c.many.invariant c.args.place c.index.result.now c.requires c.index.ensures)

pub returns-in-Many : goal.returns-in-Many
returns-in-Many c =
    let i = c.many.inside in
    let certs = c.many.view_is ∙ (ap certs_borrowed (sym c.in-Many.is) ∙ c.self.view_is) in
    let lines = rw c.as_slice.ensures.value at c.lines.ensures in
    ap (option_map (λ (cert : Cert). cert.lines)) (cert_at i.head.claim i.head.leg i.head.upto i.chains.lists i.scans.items i.waiters.items c.args.self.now certs c.many.invariant c.args.place c.index.result.now c.requires c.index.ensures) ∙ ap Some (sym lines)
