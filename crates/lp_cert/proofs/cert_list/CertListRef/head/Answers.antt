use Rattle.std.proofs.Common.{sym, ap, ◌∙◌, arith}
use Rattle.std.proofs.lemmas.Grind.{common_steps}
use Rattle.lp_cert.specs.inside.Kept.{certs_borrowed}
use Rattle.lp_cert.proofs.KeptCerts.{cert_at}
use Rattle.lp_cert.proofs.Listed.{headed}
use Rattle.lp_cert.proofs.cert_list.CertListRef.head.Goals as goal

pub of_group-requires : goal.of_group-requires
of_group-requires c = grind (arith, common_steps)

pub returns-in-Many : goal.returns-in-Many
returns-in-Many c =
    let i = c.many.inside in
    let certs = c.many.view_is ∙ (ap certs_borrowed (sym c.in-Many.is) ∙ c.self.view_is) in
    let is = cert_at i.head.claim i.head.leg i.head.upto i.chains.lists i.scans.items i.waiters.items c.args.self.now certs c.many.invariant c.args.place c.index.result.now c.requires c.index.ensures in
    headed c.args.self.now c.args.place _ c.from.result c.from-in-Many.result is c.from.ensures c.from-in-Many.ensures
