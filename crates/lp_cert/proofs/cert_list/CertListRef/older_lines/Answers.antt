use Rattle.std.proofs.Common.{◌≤◌, length, sym, ap, subst, ◌∙◌}
use Rattle.lp_definitions.specs.declared.cert.Cert.{Cert}
use Rattle.lp_cert.specs.inside.Kept.{certs_borrowed}
use Rattle.lp_cert.proofs.Beside.{no_more}
use Rattle.lp_cert.proofs.KeptCerts.{is_at, known_at}
use Rattle.lp_cert.proofs.cert_list.CertListRef.older_lines.Goals as goal

pub lines_to_share-requires : goal.lines_to_share-requires
lines_to_share-requires c =
    let i = c.many.inside in
    let certs = c.many.view_is ∙ (ap certs_borrowed (sym c.in-Many.is) ∙ c.self.view_is) in
    (known_at i.head.claim i.head.leg i.head.upto i.chains.lists i.scans.items i.waiters.items c.args.self.now certs c.many.invariant c.args.place c.index.result.now c.requires c.index.ensures).known

pub returns-in-Many : goal.returns-in-Many
returns-in-Many c = λ cert found.
    let i = c.many.inside in
    let certs = c.many.view_is ∙ (ap certs_borrowed (sym c.in-Many.is) ∙ c.self.view_is) in
    let waiter = c.index.result.now in
    let head = known_at i.head.claim i.head.leg i.head.upto i.chains.lists i.scans.items i.waiters.items c.args.self.now certs c.many.invariant c.args.place waiter c.requires c.index.ensures in
    subst (λ (k : Cert). c.lines_to_share.result ≤ length k.lines) (is_at i.head.claim i.head.leg i.head.upto i.chains.lists i.scans.items i.waiters.items c.args.self.now certs c.many.invariant c.args.place waiter c.requires c.index.ensures cert found)
    (no_more i.chains.lists i.scans.items waiter.group waiter.head head c.lines_to_share.result c.lines_to_share.ensures)
