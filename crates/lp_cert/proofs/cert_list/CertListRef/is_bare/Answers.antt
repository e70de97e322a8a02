use Rattle.std.proofs.Common.{List, Some, reverse, sym, ap, ◌∙◌}
use Rattle.std.specs.Option.{option_map}
use Rattle.lp_definitions.specs.declared.cert.Cert.{Cert}
use Rattle.lp_definitions.specs.declared.line.Line.{Line}
use Rattle.lp_cert.specs.inside.Kept.{certs_borrowed}
use Rattle.lp_cert.proofs.Bare.{none_has_lines}
use Rattle.lp_cert.proofs.KeptCerts.{cert_at, known_at}
use Rattle.lp_cert.proofs.cert_list.CertListRef.is_bare.Goals as goal

pub returns-in-Bare : goal.returns-in-Bare
returns-in-Bare c = λ _.
    none_has_lines c.args.self.now c.in-Bare.field-0 c.in-Bare.field-1.now c.args.place (sym c.self.view_is ∙ ap certs_borrowed c.in-Bare.is) c.requires

pub is_bare-requires : goal.is_bare-requires
is_bare-requires c =
    let i = c.many.inside in
    let certs = c.many.view_is ∙ (ap certs_borrowed (sym c.in-Many.is) ∙ c.self.view_is) in
    (known_at i.head.claim i.head.leg i.head.upto i.chains.lists i.scans.items i.waiters.items c.args.self.now certs c.many.invariant c.args.place c.index.result.now c.requires c.index.ensures).known

pub returns-in-Many : goal.returns-in-Many
returns-in-Many c = λ yes.
    let i = c.many.inside in
    let certs = c.many.view_is ∙ (ap certs_borrowed (sym c.in-Many.is) ∙ c.self.view_is) in
    let is = cert_at i.head.claim i.head.leg i.head.upto i.chains.lists i.scans.items i.waiters.items c.args.self.now certs c.many.invariant c.args.place c.index.result.now c.requires c.index.ensures in
    ap (option_map (λ (cert : Cert). cert.lines)) is ∙ ap (λ (lines : List Line). Some (reverse lines)) (c.is_bare.ensures yes i.scans.items c.index.result.now.group)
